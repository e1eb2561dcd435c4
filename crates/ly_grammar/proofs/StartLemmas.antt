-- A search that begins, and the places of its rules.
use Rattle.std.proofs.Common.{◌≡◌, ◌<◌, ◌+◌, ◌∙◌, ℕ, List, [], Bool, true, false, sym, subst, arith, inl, inr, length}
use Rattle.std.proofs.Common.{replicate, take, Contains, slice_index_or, Some}
use Rattle.std.proofs.lemmas.List.{length-replicate, get_or-replicate, get_or_past}
use Rattle.std.proofs.lemmas.Bool.{cases_lt}
use Rattle.std.proofs.lemmas.Option.{slice_get_within}
use Rattle.ly_base.proofs.MemberLemmas.{Contains-none}
use Rattle.ly_join.specs.Grammar.{Grammar, GrammarRule, IsRule, IsGrammar}
use Rattle.ly_grammar.specs.Reduction.{kept_rules, restricted}
use Rattle.ly_grammar.specs.Private.Search.{Progress, IsSearch, HasPlaces, RuleNumbered}
use Rattle.ly_grammar.proofs.MarkedLemmas.{at_marked, marked_at, rule_numbered}

-- a list of one value has it everywhere
pub default_everywhere : {X : Type 0} (n i : ℕ) (d : X) → slice_index_or (replicate n d) i d ≡ d
default_everywhere n i d = elim (cases_lt i n) [
  | inl below ↦ get_or-replicate n i d d below
  | inr past ↦ get_or_past (replicate n d) i d (let e = length-replicate n d in omega (arith, past, e))
]

-- nothing was found yet
abbrev pub begun : Bool → ℕ → ℕ → Progress
begun terminals n rules = record {
  terminals = terminals;
  found = replicate n false;
  passed = replicate rules 0;
  waiting = replicate n [];
  queue = [];
}

pub is_begun : (G : Grammar) (terminals : Bool) → IsSearch G (begun terminals (G.accept + 1) (length G.rules))
is_begun G terminals = record {
  found_long = length-replicate (G.accept + 1) false;
  passed_long = length-replicate (length G.rules) 0;
  waiting_long = length-replicate (G.accept + 1) [];
  sound = λ A e. let no : false ≡ true = sym (default_everywhere (G.accept + 1) A false) ∙ e in absurd (cc);
  within = λ p r rule. let zero = default_everywhere {X = ℕ} (length G.rules) p 0 in omega (arith, zero);
  passed = λ p r rule X member. Contains-none X
      (subst (λ n. Contains (take n r.body) X) (default_everywhere {X = ℕ} (length G.rules) p 0) member);
  rules_wait = λ A p member. Contains-none p
      (subst (λ ps. Contains ps p) (default_everywhere (G.accept + 1) A []) member);
  queue_within = λ A member. Contains-none A member;
}

-- the rules that are kept have their places
pub places_of : (G : Grammar) (kept : List Bool) (s : Progress) (p : ℕ) (r : GrammarRule) → IsGrammar G
    → IsSearch (restricted kept G) s → IsRule (restricted kept G) p r → HasPlaces s p r
places_of G kept s p r is search rule = record {
  rule = subst (λ n. p < n) (sym search.passed_long) (slice_get_within (kept_rules kept G.rules) p (Some r) rule);
  waiting = search.waiting_long ∙ sym search.found_long;
  numbered = subst (λ n. RuleNumbered n r) (sym search.found_long)
      (rule_numbered G p r is (marked_at kept G.rules p r rule).0);
  within = search.within p r rule;
}

-- a rule that is there and kept
pub kept_rule : (G : Grammar) (kept : List Bool) (p : ℕ) (r : GrammarRule) → IsRule G p r
    → (q : GrammarRule) × IsRule (restricted kept G) p q → IsRule (restricted kept G) p r
kept_rule G kept p r rule (q, there) = at_marked kept G.rules p r rule (marked_at kept G.rules p q there).1
