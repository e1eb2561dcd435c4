-- Where symbols lead by transitions in the order of their symbols.
use Rattle.std.proofs.Common.{◌≡◌, inl, inr, ℕ, ◌+◌, ◌-◌, ◌<◌, ◌≤◌, List, Option, Some, None}
use Rattle.std.proofs.Common.{refl, sym, ◌∙◌, ap, subst, arith, length, map}
use Rattle.std.specs.Prelude.{slice_get, slice_index_or}
use Rattle.std.proofs.lemmas.Bool.{cases_order}
use Rattle.std.proofs.lemmas.List.{get_or_default, length-map, get_or-map as list_map}
use Rattle.std.proofs.lemmas.Option.{slice_get_within, get_or_from_slice_get}
use Rattle.std.proofs.Math.ListN.{get_or-map}
use Rattle.ly_join.specs.Grammar.{Symbol, symbol_of}
use Rattle.ly_lr0.specs.Automaton.{IsLess, target_of}
use Rattle.ly_lr0.specs.declared.transition.Transition as code
use Rattle.ly_lr0.specs.Private.Built.{AreInOrder}
use Rattle.ly_lr0.specs.Private.Places.{IsPlace, symbol_at}
use Rattle.ly_lr0.specs.Transitions.{transition_of}
use Rattle.ly_lr0.proofs.OrderLemmas.{less_off, less_trans}
use Rattle.ly_lr0.proofs.StateLemmas.{target_at, target_some}

module _ (ts : List code.Transition) (ordered : AreInOrder (map transition_of ts)) where
  shown : (k : ℕ) (d : code.Transition) → slice_index_or (map transition_of ts) k (transition_of d)
      ≡ transition_of (slice_index_or ts k d)
  shown k d = get_or-map transition_of ts k d

  less_at : (i j : ℕ) (d : code.Transition) → i < j → j < length ts → IsLess (symbol_at ts i d) (symbol_at ts j d)
  less_at i j d l m = subst (λ t. IsLess t.symbol (symbol_at ts j d)) (shown i d)
      (subst (λ t. IsLess (slice_index_or (map transition_of ts) i (transition_of d)).symbol t.symbol) (shown j d)
      (ordered i j (transition_of d) l (omega (arith, m, length-map ts transition_of))))

  same_at : (k : ℕ) (d e : code.Transition) → k < length ts → symbol_at ts k d ≡ symbol_at ts k e
  same_at k d e l = ap (λ t. symbol_of t.symbol) (get_or_default ts k d e l)

  -- what stands up to a transition before the symbol is before it
  pub before_to : (X : Symbol) (m : ℕ) (e : code.Transition) → m < length ts → IsLess (symbol_at ts m e) X
      → (k : ℕ) (d : code.Transition) → k < m + 1 → IsLess (symbol_at ts k d) X
  before_to X m e inside less k d l = elim (cases_order k m) [
    | inl same ↦ subst (λ n. IsLess (symbol_at ts n d) X) (sym same)
        (subst (λ Y. IsLess Y X) (same_at m e d inside) less)
    | inr (inl low) ↦ less_trans (symbol_at ts k d) (symbol_at ts m d) X (less_at k m d low inside)
        (subst (λ Y. IsLess Y X) (same_at m e d inside) less)
    | inr (inr past) ↦ absurd (omega (arith, past, l))
  ]

  -- and what stands from one on that isn't before it isn't either
  pub behind_from : (X : Symbol) (m : ℕ) (e : code.Transition) → m < length ts → (IsLess (symbol_at ts m e) X → ⊥)
      → (k : ℕ) (d : code.Transition) → m ≤ k → k < length ts → IsLess (symbol_at ts k d) X → ⊥
  behind_from X m e inside off k d l n less = elim (cases_order k m) [
    | inl same ↦ off (subst (λ Y. IsLess Y X) (same_at m d e inside)
        (subst (λ n. IsLess (symbol_at ts n d) X) same less))
    | inr (inl low) ↦ absurd (omega (arith, low, l))
    | inr (inr past) ↦ off (less_trans (symbol_at ts m e) (symbol_at ts k d) X
        (subst (λ Y. IsLess Y (symbol_at ts k d)) (same_at m d e inside) (less_at m k d past n)) less)
  ]

  -- a transition that is there says where its symbol leads
  pub leads_at : (k : ℕ) (t : code.Transition) → slice_get ts k ≡ Some t
      → target_of (map transition_of ts) (symbol_of t.symbol) ≡ Some t.target.0
  leads_at k t is = target_at (map transition_of ts) ordered (transition_of t) (
    k,
    omega (arith, slice_get_within ts k t is, length-map ts transition_of),
    shown k t ∙ ap transition_of (get_or_from_slice_get ts k t t is),
  )

  -- what a list has past its end says nothing of a transition that is there
  pub less_any : (X : Symbol) (k : ℕ) (d e : code.Transition) → k < length ts → IsLess (symbol_at ts k e) X
      → IsLess (symbol_at ts k d) X
  less_any X k d e inside less = subst (λ Y. IsLess Y X) (same_at k e d inside) less

  -- a place is the symbol's by the transitions on both sides of it
  pub place_between : (X : Symbol) (place : ℕ) → place ≤ length ts
      → (0 < place → (d : code.Transition) → IsLess (symbol_at ts (place - 1) d) X)
      → (place < length ts → (d : code.Transition) → IsLess (symbol_at ts place d) X → ⊥) → IsPlace ts X place
  place_between X place within before behind = record {
    within = within;
    before = λ k d l. before_to X (place - 1) d (omega (arith, l, within)) (before (omega (arith, l)) d) k d
        (omega (arith, l));
    behind = λ k d l m. behind_from X place d (omega (arith, l, m)) (behind (omega (arith, l, m)) d) k d l m;
  }

  -- a symbol's transition stands at its place
  pub place_at : (k : ℕ) (t : code.Transition) → slice_get ts k ≡ Some t → IsPlace ts (symbol_of t.symbol) k
  place_at k t is =
      let inside = slice_get_within ts k t is in
      let here : (d : code.Transition) → symbol_at ts k d ≡ symbol_of t.symbol
      = λ d. ap (λ u. symbol_of u.symbol) (get_or_from_slice_get ts k t d is) in
      place_between (symbol_of t.symbol) k (omega (arith, inside))
      (λ some d. subst (IsLess (symbol_at ts (k - 1) d)) (here d) (less_at (k - 1) k d (omega (arith, some)) inside))
      (λ l d less. less_off (symbol_of t.symbol) (subst (λ Y. IsLess Y (symbol_of t.symbol)) (here d) less))

  -- where another symbol's transition or none stands at a symbol's place, the symbol leads nowhere
  pub leads_nowhere : (X : Symbol) (place : ℕ) (e : code.Transition) → IsPlace ts X place
      → (place < length ts → symbol_at ts place e ≡ X → ⊥) → target_of (map transition_of ts) X ≡ None
  leads_nowhere X place e is_place other = at (target_of (map transition_of ts) X) refl where
    off : (n k : ℕ) → k < length ts → symbol_at ts k e ≡ X → ⊥
    off n k l is = elim (cases_order k place) [
      | inl same ↦ other (omega (arith, same, l)) (subst (λ m. symbol_at ts m e ≡ X) same is)
      | inr (inl less) ↦ less_off X (subst (λ Y. IsLess Y X) is (is_place.before k e less))
      | inr (inr past) ↦ is_place.behind place e (omega arith) (omega (arith, past, l))
          (subst (IsLess (symbol_at ts place e)) is (less_at place k e past l))
    ]

    at : (o : Option ℕ) → target_of (map transition_of ts) X ≡ o → target_of (map transition_of ts) X ≡ None
    at None is = is
    at (Some n) is =
        let c = target_some (map transition_of ts) X n is in
        let within : c.0 < length ts = omega (arith, c.1, length-map ts transition_of) in
        absurd (off n c.0 within (ap (λ t. t.symbol) (sym (list_map transition_of ts c.0 e _ within) ∙ c.2)))
