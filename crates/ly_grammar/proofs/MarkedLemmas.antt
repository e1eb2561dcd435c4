-- Rules that are marked.
use Rattle.std.proofs.Common.{◌≡◌, ◌<◌, ◌+◌, ◌∙◌, ℕ, zero, suc, List, [], ◌∷◌, Bool, true, false, ap, subst, arith}
use Rattle.std.proofs.Common.{length, map, All, slice_get, slice_index_or, Some, None, Option, option_map, replicate}
use Rattle.std.proofs.Common.{refl}
use Rattle.std.proofs.lemmas.Option.{slice_get-map, slice_get-get_or}
use Rattle.std.proofs.lemmas.List.Elements.{All-cons, All-nil, All-weaker}
use Rattle.ly_join.specs.Grammar.{Grammar, GrammarRule, IsRule, IsGrammar, Symbol, SymbolWithin, terminal, nonterminal}
use Rattle.ly_join.specs.Grammar.{accept_rule}
use Rattle.ly_grammar.specs.Private.Search.{HasNumberBelow, RuleNumbered}
use Rattle.ly_grammar.specs.Reduction.{kept_rules}
use Rattle.ly_grammar.proofs.SearchLemmas.{rule_is_one}

-- a rule that is left is one, and marked
pub marked_at : (kept : List Bool) (rules : List (Option GrammarRule)) (p : ℕ) (r : GrammarRule)
    → slice_get (kept_rules kept rules) p ≡ Some (Some r)
    → (slice_get rules p ≡ Some (Some r)) × (slice_index_or kept p false ≡ true)
marked_at [] rules p r e = absurd (cc)
marked_at (k ∷ kept) [] p r e = absurd (cc)
marked_at (true ∷ kept) (x ∷ rules) zero r e = (e, refl)
marked_at (false ∷ kept) (x ∷ rules) zero r e = absurd (cc)
marked_at (true ∷ kept) (x ∷ rules) (suc p) r e = marked_at kept rules p r e
marked_at (false ∷ kept) (x ∷ rules) (suc p) r e = marked_at kept rules p r e

-- and one that is marked is left
pub at_marked : (kept : List Bool) (rules : List (Option GrammarRule)) (p : ℕ) (r : GrammarRule)
    → slice_get rules p ≡ Some (Some r) → slice_index_or kept p false ≡ true
    → slice_get (kept_rules kept rules) p ≡ Some (Some r)
at_marked [] rules p r e k = absurd (cc)
at_marked (k ∷ kept) [] p r e m = absurd (cc)
at_marked (true ∷ kept) (x ∷ rules) zero r e k = e
at_marked (false ∷ kept) (x ∷ rules) zero r e k = absurd (cc)
at_marked (true ∷ kept) (x ∷ rules) (suc p) r e k = at_marked kept rules p r e k
at_marked (false ∷ kept) (x ∷ rules) (suc p) r e k = at_marked kept rules p r e k

-- there are as many numbers as before
pub length-marked : (kept : List Bool) (rules : List (Option GrammarRule)) → length kept ≡ length rules
    → length (kept_rules kept rules) ≡ length rules
length-marked [] rules e = e
length-marked (k ∷ kept) [] e = absurd (omega (arith, e))
length-marked (true ∷ kept) (x ∷ rules) e = ap suc (length-marked kept rules (omega (arith, e)))
length-marked (false ∷ kept) (x ∷ rules) e = ap suc (length-marked kept rules (omega (arith, e)))

-- the rules of a grammar, as a list of rules that are all there
pub listed_rule : (G : Grammar) (rules : List GrammarRule) (p : ℕ) (d : GrammarRule) → map Some rules ≡ G.rules
    → p < length rules
    → IsRule G p (slice_index_or rules p d)
listed_rule G rules p d e lt = subst (λ rs. slice_get rs p ≡ Some (Some (slice_index_or rules p d))) e
    (slice_get-map Some rules p ∙ ap (λ o. option_map Some o) (slice_get-get_or rules p d lt))

-- symbols that a rule may name have their places
pub numbered : (G : Grammar) (w : List Symbol) → All (SymbolWithin G.terminals G.accept) w
    → All (HasNumberBelow (G.accept + 1)) w
numbered G w all = All-weaker (SymbolWithin G.terminals G.accept) (HasNumberBelow (G.accept + 1)) here w all where
  here : (X : Symbol) → SymbolWithin G.terminals G.accept X → HasNumberBelow (G.accept + 1) X
  here (terminal t) is = tt
  here (nonterminal A) is = omega (arith, is)

-- and so have those of every rule
pub rule_numbered : (G : Grammar) (p : ℕ) (r : GrammarRule) → IsGrammar G → IsRule G p r → RuleNumbered (G.accept + 1) r
rule_numbered G zero r is rule = subst (RuleNumbered (G.accept + 1))
    (rule_is_one G 0 (accept_rule G.accept G.start) r is.augmented.rule_0 rule) (record {
      left = omega arith;
      body = All-cons (HasNumberBelow (G.accept + 1)) (nonterminal G.start) (terminal 0 ∷ [])
          (let lt = is.augmented.start_within in omega (arith, lt))
          (All-cons (HasNumberBelow (G.accept + 1)) (terminal 0) [] tt (All-nil (HasNumberBelow (G.accept + 1))));
    })
rule_numbered G (suc p) r is rule =
    let within = is.augmented.within (suc p) r rule (omega arith) in
    record { left = (let lt = within.left in omega (arith, lt)); body = numbered G r.body within.body }

-- where all are marked nothing is removed
pub marked_all : (rules : List (Option GrammarRule)) → kept_rules (replicate (length rules) true) rules ≡ rules
marked_all [] = refl
marked_all (r ∷ rules) = ap (λ rs. r ∷ rs) (marked_all rules)

-- one that is not marked is removed
pub at_dropped : (kept : List Bool) (rules : List (Option GrammarRule)) (p : ℕ) → p < length rules
    → length kept ≡ length rules → slice_index_or kept p false ≡ false → slice_get (kept_rules kept rules) p ≡ Some None
at_dropped kept [] p lt long off = absurd (omega (arith, lt))
at_dropped [] (x ∷ rules) p lt long off = absurd (omega (arith, long))
at_dropped (true ∷ kept) (x ∷ rules) zero lt long off = absurd (cc)
at_dropped (false ∷ kept) (x ∷ rules) zero lt long off = refl
at_dropped (true ∷ kept) (x ∷ rules) (suc p) lt long off
    = at_dropped kept rules p (omega (arith, lt)) (omega (arith, long)) off
at_dropped (false ∷ kept) (x ∷ rules) (suc p) lt long off
    = at_dropped kept rules p (omega (arith, lt)) (omega (arith, long)) off
