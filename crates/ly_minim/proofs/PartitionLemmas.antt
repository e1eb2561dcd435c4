-- Partitions whose marked states can be split off.
use Rattle.std.proofs.Common.{◌≡◌, ◌≢◌, ◌⊎◌, ◌↔◌, ◌<◌, ◌≤◌, ◌^◌, ◌∙◌, ◌++◌, ◌∷◌, [], ℕ, List, length}
use Rattle.std.proofs.Common.{Option, Some, None}
use Rattle.std.proofs.Common.{sym, ap, refl, subst, arith, inl, inr, get_or}
use Rattle.std.proofs.lemmas.Bool.{cases_eq, cases_lt}
use Rattle.std.proofs.lemmas.List.{get_or_append_left, get_or_push, length_push}
use Rattle.ly_base.proofs.PigeonholeLemmas.{pigeonhole}
use Rattle.ly_subset.specs.Automaton.{entry_at}
use Rattle.ly_minim.specs.Private.Groups.{AreChains, AreGrouped, past}
use Rattle.ly_minim.specs.Private.Partition.{AreTouched, HasSameBlocks, IsClear, IsLaid, IsMarked, IsMarking, home}
use Rattle.ly_minim.specs.declared.partition.Partition.{Partition}

-- there are as many blocks as states, or fewer
pub few : (n : ℕ) (states place of first middle end : List ℕ) → IsLaid n states place of first middle end
    → length first ≤ n
few n states place of first middle end laid = pigeonhole (length first) n (λ b s. get_or of s 0 ≡ b)
    (λ b l. let at = get_or first b 0 in
    let some = laid.some b l in
    let inside = laid.inside b l in
    (get_or states at 0, laid.state_within at (omega (arith, some, inside)), laid.block b at l (omega arith) some))
    (λ i h j l m p q. sym p ∙ q)

-- the states that have the key from a state on are marked
pub record IsMarkedTo (of : ℕ → Option ℕ) (key : ℕ) (next : Option ℕ) (old new : Partition) : Type 0 where
  pub keyed : (t : ℕ) → next ≡ Some t → of t ≡ Some key
  pub marked : (s : ℕ) → s < length old.of.items
      → (IsMarked new s ↔ (IsMarked old s ⊎ ((past next ≤ s) × (of s ≡ Some key))))

module _ (of : ℕ → Option ℕ) (key : ℕ) (last before : List (Option ℕ)) (old : Partition)
    (chains : AreChains (length old.of.items) last before)
    (grouped : AreGrouped (length old.of.items) of last before) where
  -- none of the key is marked yet
  pub chain_start : IsMarkedTo of key (entry_at last key) old old
  chain_start = record {
    keyed = λ t e. grouped.last_key key t e;
    marked = λ s l. (
      λ m. inl m,
      λ is. elim is [
        | inl m ↦ m
        | inr at ↦ absurd (omega (arith, grouped.last_of s key l at.1, at.0))
      ],
    );
  }

  -- one more is marked
  pub chain_more : (t : ℕ) (mid new : Partition) → t < length old.of.items → IsMarkedTo of key (Some t) old mid
      → HasSameBlocks old mid → IsMarking t mid new → IsMarkedTo of key (entry_at before t) old new
  chain_more t mid new l so same marking = record {
    keyed = λ s e. grouped.before_key s t l e ∙ so.keyed t refl;
    marked = λ s m. let here : s < length mid.of.items = omega (arith, m, ap length same.of) in (
      λ is. elim ((marking.marked s here).0 is) [
        | inl was ↦ elim ((so.marked s m).0 was) [
          | inl first ↦ inl first
          | inr at ↦ inr (omega (arith, at.0, below), at.1)
        ]
        | inr this ↦ inr (omega (arith, this, below), ap of this ∙ so.keyed t refl)
      ],
      λ is. elim is [
        | inl first ↦ (marking.marked s here).1 (inl ((so.marked s m).1 (inl first)))
        | inr at ↦ elim (cases_eq s t) [
          | inl this ↦ (marking.marked s here).1 (inr this)
          | inr ne ↦ elim (cases_lt s t) [
            | inl less ↦ absurd (omega (arith, grouped.next_of s t key less l at.1 (so.keyed t refl), at.0))
            | inr more ↦ (marking.marked s here).1 (inl ((so.marked s m).1 (inr (omega (arith, more, ne), at.1))))
          ]
        ]
      ],
    );
  }
    where
      below_of : (o : Option ℕ) → ((s : ℕ) → o ≡ Some s → s < t) → past o ≤ t
      below_of None f = omega arith
      below_of (Some s) f = omega (arith, f s refl)

      below : past (entry_at before t) ≤ t
      below = below_of (entry_at before t) (λ s e. chains.falls s t e)

-- the way down a chain
pub past_falls : (next : Option ℕ) (t : ℕ) (onward : Option ℕ) → next ≡ Some t
    → ((s : ℕ) → onward ≡ Some s → s < t) → past onward < past next
past_falls next t None e less = omega (arith, ap past e)
past_falls next t (Some s) e less = omega (arith, ap past e, less s refl)

module _ (state : ℕ) (old new : Partition) (marking : IsMarking state old new) (touched : List ℕ)
    (so : AreTouched old 0 touched) where
  count_same : length new.first.items ≡ length old.first.items
  count_same = ap length marking.same.first

  unclear : (b : ℕ) → b ≢ home old state → (IsClear new b → ⊥) → IsClear old b → ⊥
  unclear b ne not is = not (marking.others b ne ∙ is ∙ sym (ap (λ xs. get_or xs b 0) marking.same.first))

  -- the state's block is in the list already
  pub touched_same : (IsClear old (home old state) → ⊥) → AreTouched new 0 touched
  touched_same has = record {
    blocks = λ i l. omega (arith, so.blocks i l, count_same);
    all = λ b l not. so.all b (omega (arith, l, count_same)) (elim (cases_eq b (home old state)) [
      | inl this ↦ subst (λ x. IsClear old x → ⊥) (sym this) has
      | inr ne ↦ unclear b ne not
    ]);
  }

  -- the state's block is appended
  pub touched_more : home old state < length old.first.items → AreTouched new 0 (touched ++ home old state ∷ [])
  touched_more less = record {
    blocks = λ i l. elim (cases_lt i (length touched)) [
      | inl m ↦ subst (λ x. x < length new.first.items) (sym (get_or_append_left touched (home old state ∷ []) 0 i m))
          (omega (arith, so.blocks i m, count_same))
      | inr past ↦ let at : length touched ≡ i = omega (arith, l, past, length_push touched (home old state)) in
          subst (λ x. x < length new.first.items) (sym (get_or_push touched (home old state) 0 i at))
          (omega (arith, less, count_same))
    ];
    all = λ b l not. elim (cases_eq b (home old state)) [
      | inl this ↦ (
        length touched,
        omega arith,
        omega (arith, length_push touched (home old state)),
        get_or_push touched (home old state) 0 (length touched) refl ∙ sym this,
      )
      | inr ne ↦ let was = so.all b (omega (arith, l, count_same)) (unclear b ne not) in (
        was.0,
        omega arith,
        omega (arith, was.2, length_push touched (home old state)),
        get_or_append_left touched (home old state ∷ []) 0 was.0 was.2 ∙ was.3,
      )
    ];
  }

-- numbers at their own places, in one block
pub whole_laid : (n : ℕ) (states place of first middle end : List ℕ) → 0 < n → n < 2 ^ 32 → length states ≡ n
    → length place ≡ n → length of ≡ n → ((i : ℕ) → i < n → get_or states i 0 ≡ i)
    → ((i : ℕ) → i < n → get_or place i 0 ≡ i) → ((i : ℕ) → i < n → get_or of i 0 ≡ 0) → first ≡ 0 ∷ []
    → middle ≡ 0 ∷ [] → end ≡ n ∷ [] → IsLaid n states place of first middle end
whole_laid n states place of first middle end pos fits a b c at_state at_place at_of f m e = record {
  fits = fits;
  states_count = a;
  place_count = b;
  of_count = c;
  middle_count = ap length m ∙ sym (ap length f);
  end_count = ap length e ∙ sym (ap length f);
  place_within = λ s l. omega (arith, at_place s l, l);
  at_place = λ s l. ap (λ i. get_or states i 0) (at_place s l) ∙ at_state s l;
  state_within = λ i l. omega (arith, at_state i l, l);
  place_at = λ i l. ap (λ s. get_or place s 0) (at_state i l) ∙ at_place i l;
  within = λ s l. omega (arith, at_of s l, one);
  begins = λ s l. omega (arith, ap (λ b. get_or first b 0) (at_of s l), first_zero);
  ends = λ s l. omega (arith, ap (λ b. get_or end b 0) (at_of s l), end_zero, at_place s l, l);
  block = λ j i l p q. let zero_block = zero_of j l in
      let within : i < n = omega (arith, q, ap (λ b. get_or end b 0) zero_block, end_zero) in
      ap (λ s. get_or of s 0) (at_state i within) ∙ at_of i within ∙ sym zero_block;
  low = λ j l. omega (arith, ap (λ b. get_or first b 0) (zero_of j l), first_zero);
  high = λ j l. omega (arith, ap (λ b. get_or middle b 0) (zero_of j l), middle_zero);
  some = λ j l. omega (
    arith,
    pos,
    ap (λ b. get_or first b 0) (zero_of j l),
    first_zero,
    ap (λ b. get_or end b 0) (zero_of j l),
    end_zero,
  );
  inside = λ j l. omega (arith, ap (λ b. get_or end b 0) (zero_of j l), end_zero);
}
  where
    one : length first ≡ 1
    one = ap length f

    first_zero : get_or first 0 0 ≡ 0
    first_zero = ap (λ xs. get_or xs 0 0) f

    middle_zero : get_or middle 0 0 ≡ 0
    middle_zero = ap (λ xs. get_or xs 0 0) m

    end_zero : get_or end 0 0 ≡ n
    end_zero = ap (λ xs. get_or xs 0 0) e

    zero_of : (j : ℕ) → j < length first → j ≡ 0
    zero_of j l = omega (arith, l, one)
