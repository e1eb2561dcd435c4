-- The rows of rules that are complete in states are apart.
use Rattle.std.proofs.Common.{◌≡◌, ◌∙◌, ◌⊎◌, inl, inr, ℕ, zero, suc, ◌+◌, ◌<◌, ◌≤◌, List, ap, arith, length}
use Rattle.std.proofs.Common.{slice_index_or}
use Rattle.std.proofs.Common.{subst, sym}
use Rattle.std.proofs.lemmas.Bool.{cases_order}
use Rattle.ly_lr0.specs.Automaton.{Lr0Automaton, state_at}
use Rattle.ly_lookahead.specs.Private.Rows.{AreRows}

module _ {M : Lr0Automaton} {nodes n : ℕ} {first : List ℕ} (are : AreRows M nodes n first) where
  -- the rows of a state end before those of a later one begin
  pub rises : (s m : ℕ) → s < m → m ≤ n
      → slice_index_or first s 0 + length (state_at M s).complete ≤ slice_index_or first m 0
  rises s zero lt le = absurd (omega (arith, lt))
  rises s (suc m) lt le = elim (cases_order s m) [
    | inl e ↦
        let next = are.next s (omega (arith, lt, le)) in
        subst (λ k. slice_index_or first s 0 + length (state_at M s).complete ≤ slice_index_or first (suc k) 0) e
        (omega (arith, next))
    | inr (inl less) ↦
        let before = rises s m less (omega (arith, le)) in
        let next = are.next m (omega (arith, le)) in
        omega (arith, before, next)
    | inr (inr more) ↦ absurd (omega (arith, more, lt))
  ]

  -- and come behind those of the nodes
  pub past_nodes : (s : ℕ) → s ≤ n → nodes ≤ slice_index_or first s 0
  past_nodes zero le = let start = are.start in omega (arith, start)
  past_nodes (suc s) le =
      let before = past_nodes s (omega (arith, le)) in
      let next = are.next s (omega (arith, le)) in
      omega (arith, before, next)

  -- a row is that of one place in one state
  pub row_once : (s m k j : ℕ) → s < n → m < n → k < length (state_at M s).complete
      → j < length (state_at M m).complete → slice_index_or first s 0 + k ≡ slice_index_or first m 0 + j
      → (s ≡ m) × (k ≡ j)
  row_once s m k j s_lt m_lt k_lt j_lt e = at (cases_order s m) where
    at : (s ≡ m) ⊎ ((s < m) ⊎ (m < s)) → (s ≡ m) × (k ≡ j)
    at (inl same) =
        let there : slice_index_or first s 0 + k ≡ slice_index_or first s 0 + j
        = e ∙ ap (λ q. slice_index_or first q 0 + j) (sym same) in
        (same, omega (arith, there))
    at (inr (inl less)) =
        let before = rises s m less (omega (arith, m_lt)) in
        absurd (omega (arith, before, e, k_lt))
    at (inr (inr more)) =
        let before = rises m s more (omega (arith, s_lt)) in
        absurd (omega (arith, before, e, j_lt))
