-- The pigeonhole principle.
use Rattle.std.proofs.Common.{◌≡◌, ◌⊎◌, ℕ, zero, suc, ◌≤◌, ◌<◌, refl, ◌∙◌, sym, subst, inl, inr, arith}
use Rattle.std.proofs.lemmas.Bool.{cases_eq}

-- the relation without partner k, whose place m takes
abbrev Without : (ℕ → ℕ → Type 0) → ℕ → ℕ → ℕ → ℕ → Type 0
Without R k m i j = ((j ≡ k) × R i m) ⊎ ((j ≡ k → ⊥) × R i j)

without : (R : ℕ → ℕ → Type 0) (i k m : ℕ) (p : (j : ℕ) × (j < suc m) × R i j) → k < suc m → (p.0 ≡ k → ⊥)
    → (j : ℕ) × (j < m) × Without R k m i j
without R i k m p lt ne = elim (cases_eq p.0 m) [
  | inl e ↦ (
    k,
    let less : k ≡ m → ⊥ = λ f. ne (e ∙ sym f) in omega arith,
    inl (refl, subst (λ j. R i j) e p.2),
  )
  | inr d ↦ (p.0, let less : p.0 < suc m = p.1 in omega arith, inr (ne, p.2))
]

-- where each number below n has a partner below m, and no two have the same, n is no greater
pub pigeonhole : (n m : ℕ) (R : ℕ → ℕ → Type 0) → ((i : ℕ) → i < n → (j : ℕ) × (j < m) × R i j)
    → ((i h j : ℕ) → i < n → h < n → R i j → R h j → i ≡ h) → n ≤ m
pigeonhole zero m R partner one = omega arith
pigeonhole (suc n) zero R partner one = absurd (omega (arith, (partner n (omega arith)).1))
pigeonhole (suc n) (suc m) R partner one = omega (
  arith,
  pigeonhole n m (Without R last.0 m) (λ i lt. without R i last.0 m (partner i (omega arith)) last.1 (off i lt))
      one_less,
)
  where
    last : (j : ℕ) × (j < suc m) × R n j
    last = partner n (omega arith)

    off : (i : ℕ) (lt : i < n) → (partner i (omega arith)).0 ≡ last.0 → ⊥
    off i lt e = let same = one i n last.0 (omega arith) (omega arith)
        (subst (λ j. R i j) e (partner i (omega arith)).2) last.2 in omega arith

    one_less : (i h j : ℕ) → i < n → h < n → Without R last.0 m i j → Without R last.0 m h j → i ≡ h
    one_less i h j a b (inl p) (inl q) = one i h m (omega arith) (omega arith) p.1 q.1
    one_less i h j a b (inl p) (inr q) = absurd (q.0 p.0)
    one_less i h j a b (inr p) (inl q) = absurd (p.0 q.0)
    one_less i h j a b (inr p) (inr q) = one i h j (omega arith) (omega arith) p.1 q.1
