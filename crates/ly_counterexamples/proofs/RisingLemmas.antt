-- The numbers with a property, number after number.
use Rattle.std.proofs.Common.{◌≡◌, ◌⊎◌, ◌↔◌, inl, inr, ℕ, ◌+◌, ◌<◌, List, [], ◌∷◌, ◌++◌, Contains}
use Rattle.std.proofs.Common.{sym, subst, arith, slice_index_or}
use Rattle.std.specs.Prelude.{AllPairs}
use Rattle.std.proofs.lemmas.Bool.{cases_lt}
use Rattle.std.proofs.lemmas.List.Elements.{Contains-append_left, Contains-get_or, Contains-push, Contains-push_cases}
use Rattle.std.proofs.lemmas.List.Quantifiers.{all_pairs_push}
use Rattle.ly_base.proofs.MemberLemmas.{Contains-none}
use Rattle.ly_counterexamples.specs.Doubts.{AreRising}

-- of the numbers below a bound, those with a property, rising
pub record AreRisingBelow (P : ℕ → Type 0) (bound : ℕ) (numbers : List ℕ) : Type 0 where
  pub are : (n : ℕ) → Contains numbers n ↔ (P n × (n < bound))
  pub rising : AllPairs (λ m n. m < n) numbers

pub rising_none : (P : ℕ → Type 0) (bound : ℕ) (numbers : List ℕ) → numbers ≡ []
    → ((n : ℕ) → n < bound → P n → ⊥) → AreRisingBelow P bound numbers
rising_none P bound numbers e none = subst (AreRisingBelow P bound) (sym e) (record {
  are = λ n. (λ has. Contains-none n has, λ both. absurd (none n both.1 both.0));
  rising = λ i j d lt within. absurd (omega (arith, within));
})

pub rising_more : (P : ℕ → Type 0) (n : ℕ) (old new : List ℕ) → AreRisingBelow P n old → P n → new ≡ old ++ n ∷ []
    → AreRisingBelow P (n + 1) new
rising_more P n old new below is e = subst (AreRisingBelow P (n + 1)) (sym e) (record {
  are = λ p. (to p, back p);
  rising = all_pairs_push (λ m k. m < k) old n below.rising (λ k d lt.
      ((below.are (slice_index_or old k d)).0 (Contains-get_or old k d lt)).1);
})
  where
    to : (p : ℕ) → Contains (old ++ n ∷ []) p → P p × (p < n + 1)
    to p has = elim (Contains-push_cases old n p has) [
      | inl before ↦ let both = (below.are p).0 before in let lt = both.1 in (both.0, omega (arith, lt))
      | inr same ↦ (subst P same is, omega (arith, same))
    ]

    last : (p : ℕ) → P p → (p < n) ⊎ (p ≡ n) → Contains (old ++ n ∷ []) p
    last p has (inl less) = Contains-append_left old (n ∷ []) p ((below.are p).1 (has, less))
    last p has (inr same) = subst (Contains (old ++ n ∷ [])) (sym same) (Contains-push old n)

    back : (p : ℕ) → P p × (p < n + 1) → Contains (old ++ n ∷ []) p
    back p (has, lt) = last p has (elim (cases_lt p n) [
      | inl less ↦ inl less
      | inr past ↦ inr (omega (arith, lt, past))
    ])

pub rising_same : (P : ℕ → Type 0) (n : ℕ) (old : List ℕ) → AreRisingBelow P n old → (P n → ⊥)
    → AreRisingBelow P (n + 1) old
rising_same P n old below off = record {
  are = λ p. (
    λ has. let both = (below.are p).0 has in let lt = both.1 in (both.0, omega (arith, lt)),
    λ both. (below.are p).1 (both.0, below_it p both.0 both.1),
  );
  rising = below.rising;
}
  where
    below_it : (p : ℕ) → P p → p < n + 1 → p < n
    below_it p is lt = elim (cases_lt p n) [
      | inl less ↦ less
      | inr past ↦ absurd (let same : p ≡ n = omega (arith, lt, past) in off (subst P same is))
    ]

-- no number past the bound has the property
pub rising_all : (P : ℕ → Type 0) (bound : ℕ) (numbers : List ℕ) → AreRisingBelow P bound numbers
    → ((n : ℕ) → P n → n < bound) → AreRising P numbers
rising_all P bound numbers below within = record {
  are = λ n. (λ has. ((below.are n).0 has).0, λ is. (below.are n).1 (is, within n is));
  rising = below.rising;
}

-- the same numbers by another property
pub rising_as : (P Q : ℕ → Type 0) (numbers : List ℕ) → ((n : ℕ) → P n ↔ Q n) → AreRising P numbers
    → AreRising Q numbers
rising_as P Q numbers same are = record {
  are = λ n. (λ has. (same n).0 ((are.are n).0 has), λ is. (are.are n).1 ((same n).1 is));
  rising = are.rising;
}
