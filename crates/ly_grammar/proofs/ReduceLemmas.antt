-- The grammar of the useful rules.
use Rattle.std.proofs.Common.{◌≡◌, ◌∙◌, ◌⊎◌, ◌↔◌, ◌∷◌, ℕ, zero, suc, List, [], Bool, true, false, sym, subst, arith}
use Rattle.std.proofs.Common.{inl, inr, refl, length, slice_index_or}
use Rattle.std.proofs.lemmas.List.{append-nil}
use Rattle.ly_base.specs.Trees.{Tree, Trees, leaf, node, none, more, yield_of, Occurs, OccursAmong}
use Rattle.ly_join.specs.Grammar.{Grammar, GrammarRule, IsAugmented, IsRule, IsGrammar, Symbol, accept_rule, terminal}
use Rattle.ly_join.specs.Grammar.{nonterminal}
use Rattle.ly_grammar.specs.Derivations.{IsTree, AreTrees, IsNullable, IsReduced, IsUseful}
use Rattle.ly_sets.specs.NumberSet.{Member}
use Rattle.ly_sets.specs.SetMatrix.{Matrix, row}
use Rattle.ly_grammar.specs.Reduction.{restricted, reduction_of, IsReduction, KeepsUseful}
use Rattle.ly_grammar.specs.Laws.{KeepsSentences, KeepsTrees}
use Rattle.ly_grammar.specs.Private.First.{Starts}
use Rattle.ly_grammar.proofs.BeginLemmas.{starts_are_begun}
use Rattle.ly_grammar.specs.Private.Search.{HasTree, HaveTrees}
use Rattle.ly_grammar.proofs.MarkedLemmas.{at_marked, marked_at, length-marked}
use Rattle.ly_grammar.proofs.SearchLemmas.{rule_is_one}
use Rattle.ly_grammar.proofs.UsefulLemmas.{whole_trees}

mutual
  -- a tree whose rules another grammar has too is one of that grammar
  pub tree_into : (G R : Grammar) (X : Symbol) (d : Tree) → IsTree G X d
      → ((p : ℕ) (r : GrammarRule) → Occurs p d → IsRule G p r → IsRule R p r) → IsTree R X d
  tree_into G R (terminal k) (leaf t) is has = is
  tree_into G R (nonterminal A) (leaf t) is has = absurd is
  tree_into G R (terminal k) (node p ts) is has = absurd is
  tree_into G R (nonterminal A) (node p ts) (r, rule, left, are) has
      = (r, has p r (inl refl) rule, left, trees_into G R r.body ts are (λ q s m. has q s (inr m)))

  pub trees_into : (G R : Grammar) (w : List Symbol) (ts : Trees) → AreTrees G w ts
      → ((p : ℕ) (r : GrammarRule) → OccursAmong p ts → IsRule G p r → IsRule R p r) → AreTrees R w ts
  trees_into G R [] none are has = tt
  trees_into G R (X ∷ w) none are has = absurd are
  trees_into G R [] (more t ts) are has = absurd are
  trees_into G R (X ∷ w) (more t ts) are has
      = (tree_into G R X t are.0 (λ p r m. has p r (inl m)), trees_into G R w ts are.1 (λ p r m. has p r (inr m)))

-- The trees of a rule's body, where it occurs.
pub record HasBody (G : Grammar) (p : ℕ) : Type 0 where
  pub rule : GrammarRule
  pub is : IsRule G p rule
  pub trees : Trees
  pub are : AreTrees G rule.body trees

mutual
  pub occurs_body : (G : Grammar) (X : Symbol) (d : Tree) (p : ℕ) → IsTree G X d → Occurs p d → HasBody G p
  occurs_body G X (leaf t) p is here = absurd here
  occurs_body G (terminal k) (node q ts) p is here = absurd is
  occurs_body G (nonterminal A) (node q ts) p (r, rule, left, are) (inl same)
      = subst (HasBody G) (sym same) (record { rule = r; is = rule; trees = ts; are = are })
  occurs_body G (nonterminal A) (node q ts) p (r, rule, left, are) (inr among) = among_body G r.body ts p are among

  pub among_body : (G : Grammar) (w : List Symbol) (ts : Trees) (p : ℕ) → AreTrees G w ts → OccursAmong p ts
      → HasBody G p
  among_body G w none p are here = absurd here
  among_body G [] (more t ts) p are here = absurd are
  among_body G (X ∷ w) (more t ts) p are (inl here) = occurs_body G X t p are.0 here
  among_body G (X ∷ w) (more t ts) p are (inr later) = among_body G w ts p are.1 later

-- the marks are those of rule 0 and of the useful rules
abbrev pub MarkUseful : Grammar → List Bool → Type 0
MarkUseful G marks = (p : ℕ) (r : GrammarRule) → IsRule G p r
    → (slice_index_or marks p false ≡ true) ↔ ((p ≡ 0) ⊎ IsUseful G p)

module _ (G : Grammar) (marks : List Bool) (lawful : IsGrammar G) (long : length marks ≡ length G.rules)
    (useful : MarkUseful G marks) where
  -- the rules of a tree of the start symbol are marked
  pub start_kept : (d : Tree) → IsTree G (nonterminal G.start) d → IsTree (restricted marks G) (nonterminal G.start) d
  start_kept d is = tree_into G (restricted marks G) (nonterminal G.start) d is (λ p r here rule.
      at_marked marks G.rules p r rule ((useful p r rule).1 (inr (d, is, here))))

  pub keeps_useful : KeepsUseful G (restricted marks G)
  keeps_useful = record {
    terminals = refl;
    accept = refl;
    start = refl;
    numbers = length-marked marks G.rules long;
    rules = λ p r. (
      λ rule. let there = marked_at marks G.rules p r rule in (there.0, (useful p r there.0).0 there.1),
      λ is. at_marked marks G.rules p r is.0 ((useful p r is.0).1 is.1),
    );
  }

  pub is_augmented : IsAugmented (restricted marks G)
  is_augmented = record {
    end_within = lawful.augmented.end_within;
    start_within = lawful.augmented.start_within;
    rule_0 = at_marked marks G.rules 0 (accept_rule G.accept G.start) lawful.augmented.rule_0
        ((useful 0 (accept_rule G.accept G.start) lawful.augmented.rule_0).1 (inl refl));
    within = λ p r rule le. lawful.augmented.within p r (marked_at marks G.rules p r rule).0 le;
  }

  pub is_reduced : (d : Tree) × IsTree G (nonterminal G.start) d → IsReduced (restricted marks G)
  is_reduced tree = record {
    start_tree = (tree.0, start_kept tree.0 tree.1);
    useful = λ p r rule le.
        let there = marked_at marks G.rules p r rule in
        elim ((useful p r there.0).0 there.1) [
          | inl zeroth ↦ absurd (omega (arith, le, zeroth))
          | inr (d, is, occurs) ↦ (d, start_kept d is, occurs)
        ];
  }

  -- all bodies of its rules have trees
  pub bodies_have_trees : (d : Tree) × IsTree G (nonterminal G.start) d → (p : ℕ) (r : GrammarRule)
      → IsRule (restricted marks G) p r → HaveTrees (restricted marks G) true r.body
  bodies_have_trees tree zero r rule =
      let there = marked_at marks G.rules zero r rule in
      subst (λ x. HaveTrees (restricted marks G) true x.body)
      (rule_is_one G zero (accept_rule G.accept G.start) r lawful.augmented.rule_0 there.0)
      (whole_trees (restricted marks G) tree.0 (start_kept tree.0 tree.1))
  bodies_have_trees tree (suc p) r rule =
      let is = (is_reduced tree).useful (suc p) r rule (omega arith) in
      let body = occurs_body (restricted marks G) (nonterminal G.start) is.0 (suc p) is.1 is.2 in
      subst (λ x. HaveTrees (restricted marks G) true x.body)
      (rule_is_one (restricted marks G) (suc p) body.rule r body.is rule) (body.trees, body.are, λ e. absurd (cc))

-- a nonterminal with an empty tree is nullable
pub empty_nullable : (G : Grammar) (A : ℕ) → HasTree G false (nonterminal A) ↔ IsNullable G (nonterminal A ∷ [])
empty_nullable G A = (to, back) where
  to : HasTree G false (nonterminal A) → IsNullable G (nonterminal A ∷ [])
  to (d, is, empty) = (more d none, (is, tt), append-nil (yield_of d) ∙ empty refl)

  back : IsNullable G (nonterminal A ∷ []) → HasTree G false (nonterminal A)
  back (none, are, empty) = absurd are
  back (more d (more e es), are, empty) = absurd are.1
  back (more d none, are, empty) = (d, are.0, λ _. sym (append-nil (yield_of d)) ∙ empty)

-- a grammar with its useful rules marked, what is nullable by these, and what starts by these, are a reduction
pub is_reduction : (G : Grammar) (marks nullable : List Bool) (first : Matrix) → IsGrammar G
    → length marks ≡ length G.rules → MarkUseful G marks → (d : Tree) × IsTree G (nonterminal G.start) d
    → ((A : ℕ) → (slice_index_or nullable A false ≡ true) ↔ HasTree (restricted marks G) false (nonterminal A))
    → ((A t : ℕ) → Member (row first.sets A) t ↔ Starts (restricted marks G) nullable A t)
    → IsReduction G (reduction_of G marks nullable first)
is_reduction G marks nullable first lawful long useful tree empties starts = record {
  keeps = keeps_useful G marks lawful long useful;
  augmented = is_augmented G marks lawful long useful;
  reduced = is_reduced G marks lawful long useful tree;
  nullable = λ A le. let e = empties A in let n = empty_nullable (restricted marks G) A in
      (λ on. n.0 (e.0 on), λ is. e.1 (n.1 is));
  first = λ A t le.
      let s = starts A t in
      let b = starts_are_begun (restricted marks G) nullable empties
      (bodies_have_trees G marks lawful long useful tree) A t in
      (λ member. b.0 (s.0 member), λ is. s.1 (b.1 is));
}

-- without the other rules the start symbol has the same trees
pub keeps_trees : KeepsTrees
keeps_trees G R keeps d = (to, back) where
  to : IsTree G (nonterminal G.start) d → IsTree R (nonterminal R.start) d
  to is = subst (λ A. IsTree R (nonterminal A) d) (sym keeps.start) (tree_into G R (nonterminal G.start) d is
      (λ p r here rule. (keeps.rules p r).1 (rule, inr (d, is, here))))

  back : IsTree R (nonterminal R.start) d → IsTree G (nonterminal G.start) d
  back is = tree_into R G (nonterminal G.start) d (subst (λ A. IsTree R (nonterminal A) d) keeps.start is)
      (λ p r here rule. ((keeps.rules p r).0 rule).0)

pub keeps_sentences : KeepsSentences
keeps_sentences G R keeps ts = (
  λ (d, is, yields). (d, (keeps_trees G R keeps d).0 is, yields),
  λ (d, is, yields). (d, (keeps_trees G R keeps d).1 is, yields),
)
