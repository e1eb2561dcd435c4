-- The rules that are removed, number after number.
use Rattle.std.proofs.Common.{◌≡◌, ◌⊎◌, inl, inr, ◌<◌, ◌≤◌, ◌+◌, ◌++◌, ◌∷◌, [], ℕ, zero, suc, List, Contains}
use Rattle.std.proofs.Common.{Some, length}
use Rattle.std.proofs.Common.{slice_index_or, arith, refl, subst, sym}
use Rattle.std.specs.Prelude.{◌↔◌, AllPairs}
use Rattle.std.proofs.lemmas.Bool.{cases_eq}
use Rattle.std.proofs.lemmas.Option.{slice_get_within}
use Rattle.std.proofs.lemmas.List.Elements.{Contains-append_left, Contains-get_or, Contains-push, Contains-push_cases}
use Rattle.std.proofs.lemmas.List.Quantifiers.{all_pairs_push}
use Rattle.ly_base.proofs.MemberLemmas.{Contains-none}
use Rattle.ly_join.specs.Grammar.{Grammar, IsGrammar, IsRule, GrammarRule}
use Rattle.ly_grammar.specs.Reduction.{KeepsUseful}
use Rattle.ly_report.specs.Report.{AreRemoved, IsRemoved}

-- The rules below a number that are removed, rising.
pub record AreRemovedBelow (G : Grammar) (n : ℕ) (removed : List ℕ) : Type 0 where
  pub are : (p : ℕ) → Contains removed p ↔ (IsRemoved G p × (p < n))
  pub rising : AllPairs (λ p q. p < q) removed

pub none_below : (G : Grammar) (removed : List ℕ) → removed ≡ [] → AreRemovedBelow G 0 removed
none_below G removed e = subst (AreRemovedBelow G 0) (sym e) (record {
  are = λ p. (λ has. Contains-none p has, λ r. absurd (omega (arith, r.1)));
  rising = λ i j d lt within. absurd (omega (arith, within));
})

-- a rule that isn't kept is removed
pub removed_one : (G R : Grammar) → IsGrammar G → KeepsUseful G R → (n : ℕ) → n < length G.rules
    → ((r : GrammarRule) × IsRule R n r → ⊥) → IsRemoved G n
removed_one G R is keeps zero lt off = absurd (off (first.0, (keeps.rules 0 first.0).1 (first.1, inl refl))) where
  first : (r : GrammarRule) × IsRule G 0 r
  first = is.whole 0 lt
removed_one G R is keeps (suc n) lt off = (
  rule.0,
  rule.1,
  omega arith,
  λ useful. off (
    rule.0,
    (keeps.rules (suc n)
        rule.0).1 (rule.1, inr useful),
  ),
)
  where
    rule : (r : GrammarRule) × IsRule G (suc n) r
    rule = is.whole (suc n) lt

-- and one that is kept isn't
pub kept_one : (G R : Grammar) → KeepsUseful G R → (n : ℕ) → (r : GrammarRule) × IsRule R n r → IsRemoved G n → ⊥
kept_one G R keeps n (r, rule) (q, there, le, off) = elim ((keeps.rules n r).0 rule).1 [
  | inl z ↦ omega (arith, z, le)
  | inr useful ↦ off useful
]

pub removed_more : (G : Grammar) (n : ℕ) (old new : List ℕ) → AreRemovedBelow G n old → IsRemoved G n
    → new ≡ old ++ n ∷ [] → AreRemovedBelow G (n + 1) new
removed_more G n old new below is e = subst (AreRemovedBelow G (n + 1)) (sym e) (record {
  are = λ p. (to p, back p);
  rising = all_pairs_push (λ p q. p < q) old n below.rising (λ k d lt.
      ((below.are (slice_index_or old k d)).0 (Contains-get_or old k d lt)).1);
})
  where
    to : (p : ℕ) → Contains (old ++ n ∷ []) p → IsRemoved G p × (p < n + 1)
    to p has = elim (Contains-push_cases old n p has) [
      | inl before ↦ let r = (below.are p).0 before in let lt = r.1 in (r.0, omega arith)
      | inr same ↦ (subst (IsRemoved G) same is, omega (arith, same))
    ]

    back : (p : ℕ) → IsRemoved G p × (p < n + 1) → Contains (old ++ n ∷ []) p
    back p (r, lt) = elim (last_or_less p lt) [
      | inl less ↦ Contains-append_left old (n ∷ []) p ((below.are p).1 (r, less))
      | inr same ↦ subst (Contains (old ++ n ∷ [])) (sym same) (Contains-push old n)
    ]
      where
        last_or_less : (p : ℕ) → p < n + 1 → (p < n) ⊎ (p ≡ n)
        last_or_less p lt = elim (cases_eq p n) [
          | inl same ↦ inr same
          | inr other ↦ inl (omega arith)
        ]

pub removed_same : (G : Grammar) (n : ℕ) (old : List ℕ) → AreRemovedBelow G n old → (IsRemoved G n → ⊥)
    → AreRemovedBelow G (n + 1) old
removed_same G n old below off = record {
  are = λ p. (
    (λ has. let r = (below.are p).0 has in let lt = r.1 in (r.0, omega arith)),
    (λ r. (below.are p).1 (r.0, less p r.0 r.1)),
  );
  rising = below.rising;
}
  where
    less : (p : ℕ) → IsRemoved G p → p < n + 1 → p < n
    less p r lt = elim (cases_eq p n) [
      | inl same ↦ absurd (off (subst (IsRemoved G) same r))
      | inr other ↦ omega arith
    ]

-- below their number all rules stand
pub removed_all : (G : Grammar) (n : ℕ) (removed : List ℕ) → AreRemovedBelow G n removed → length G.rules ≤ n
    → AreRemoved G removed
removed_all G n removed below le = record {
  are = λ p. (
    (λ has. ((below.are p).0 has).0),
    (λ r. (below.are p).1 (r, let lt = slice_get_within G.rules p (Some r.0) r.1 in omega arith)),
  );
  rising = below.rising;
}
