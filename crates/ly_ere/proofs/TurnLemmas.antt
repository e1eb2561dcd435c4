-- Things are settled and taken, one after another.
use Rattle.std.proofs.Common.{◌≡◌, ◌≢◌, ◌↔◌, ◌<◌, ◌≤◌, ◌⊎◌, ◌+◌, ◌-◌, ℕ, zero, suc, List, [], ◌∷◌, ◌++◌, length}
use Rattle.std.proofs.Common.{get_or, set, inl, inr}
use Rattle.std.proofs.Common.{arith, ap, sym, subst, refl, Bool, true, false, nat_eq, ◌∙◌}
use Rattle.std.specs.Prelude.{All, Contains, MatchOption, None, Option, Some, Vec, cond, if◌then◌else◌, not, position}
use Rattle.std.proofs.lemmas.Iterator.Adapters.{position_from-zero}
use Rattle.std.proofs.lemmas.List.Quantifiers.{position-Some}
use Rattle.std.specs.List.{position_from}
use Rattle.std.specs.BTreeMap.{is_at}
use Rattle.std.specs.BTreeSet.{BTreeSet, contains}
use Rattle.std.specs.Global.{Global}
use Rattle.std.specs.Ordering.{nat_cmp}
use Rattle.std.proofs.lemmas.Bool.Decides.{nat_tests}
use Rattle.std.proofs.lemmas.Bool.{cases_eq, cases_lt, eq-eqb, ne_eqb, not-true}
use Rattle.std.proofs.lemmas.List.{get_or_default, get_or-map, get_or-set_same, get_or-set_other, length-map}
use Rattle.std.proofs.lemmas.List.{length-set}
use Rattle.std.proofs.lemmas.List.Elements.{Contains-append_left, Contains-get_or, Contains-push, Contains-push_cases}
use Rattle.ly_ere.specs.Private.Turns.{
  AreTaken,
  AreThere,
  IsLastTurn,
  IsNextUse,
  IsOpen,
  HasAllTaken,
  IsShort,
  IsThrough,
}
use Rattle.ly_ere.specs.Private.Turns.{AreTurns, awaited, count_untaken, next, none, numbers_from, passed_at, uses_at}
use Rattle.ly_ere.specs.Private.Turns.{uses_in}
use Rattle.ly_ere.specs.declared.turns.Turns.{Turns}

-- one more that is ready
abbrev with_ready : (ℕ → Bool) → ℕ → ℕ → Bool
with_ready ready n q = if nat_eq n q then true else ready q

module _ (U : List (List ℕ)) (P : List ℕ) (W : List (List ℕ)) (T : List Bool) (R : ℕ → Bool) (O : List ℕ) where
  -- the first that pends
  first_open : {n : ℕ} {r : List ℕ} → AreTaken U P W T R O (n ∷ r) → IsOpen U O n
  first_open a = a.are_open 0 0 (omega arith)

  -- what isn't taken is told by the bits
  open_bit : {pend : List ℕ} → AreTaken U P W T R O pend → (m : ℕ) → m < length U → (Contains O m → ⊥)
      → get_or T m false ≡ true → ⊥
  open_bit a m l never t = never ((a.is_taken m l).0 t)

  -- the use is there
  use_there : {pend : List ℕ} → AreTaken U P W T R O pend → (n at : ℕ) → at < length (uses_at U n)
      → get_or (uses_at U n) at 0 < length U
  use_there a n at l = a.there n at 0 l

  -- the uses up to the next that isn't taken are
  behind_next : {n : ℕ} {r : List ℕ} (at : ℕ) → AreTaken U P W T R O (n ∷ r)
      → IsNextUse (uses_at U n) T (passed_at P n) at → (k : ℕ) → k < at → Contains O (get_or (uses_at U n) k 0)
  behind_next {n} at a i k l = by (cases_lt k (passed_at P n))
    where
      by : (k < passed_at P n) ⊎ (passed_at P n ≤ k) → Contains O (get_or (uses_at U n) k 0)
      by (inl less) = a.behind n k less
      by (inr more) = (a.is_taken _ (use_there a n k (omega (arith, l, i.within)))).0 (i.passed k more l)

  -- one that waits was at the next that isn't taken
  was_next : {n : ℕ} {r : List ℕ} (at m : ℕ) → AreTaken U P W T R O (n ∷ r)
      → IsNextUse (uses_at U n) T (passed_at P n) at → (Contains O m → ⊥) → IsShort U P n → awaited U P n ≡ m
      → at ≡ passed_at P n
  was_next {n} at m a i never short is = by (cases_lt (passed_at P n) at)
    where
      by : (passed_at P n < at) ⊎ (at ≤ passed_at P n) → at ≡ passed_at P n
      by (inl less) = absurd (never (subst (Contains O) is (behind_next at a i (passed_at P n) less)))
      by (inr more) = omega (arith, more, i.behind)

  module _ (n : ℕ) (r : List ℕ) (at : ℕ) (a : AreTaken U P W T R O (n ∷ r))
      (i : IsNextUse (uses_at U n) T (passed_at P n) at) where
    -- how many are passed now
    abbrev N : List ℕ
    N = set P n at

    here : passed_at N n ≡ at
    here = get_or-set_same P n at 0 (omega (arith, a.passed_counted, (first_open a).0))

    there : (m : ℕ) → m ≢ n → passed_at N m ≡ passed_at P m
    there m other = get_or-set_other P n m at 0 other

    -- what holds of each at the old and at the new place
    each : (Q : ℕ → ℕ → Type 0) → Q n at → ((m : ℕ) → m ≢ n → Q m (passed_at P m)) → (m : ℕ) → Q m (passed_at N m)
    each Q new old m = by (cases_eq m n)
      where
        by : (m ≡ n) ⊎ (m ≡ n → ⊥) → Q m (passed_at N m)
        by (inl same) = subst (λ k. Q k (passed_at N k)) (sym same) (subst (Q n) (sym here) new)
        by (inr other) = subst (Q m) (sym (there m other)) (old m other)

    within_new : (m : ℕ) → passed_at N m ≤ length (uses_at U m)
    within_new = each (λ m p. p ≤ length (uses_at U m)) i.within (λ m _. a.within m)

    behind_new : (m k : ℕ) → k < passed_at N m → Contains O (get_or (uses_at U m) k 0)
    behind_new = each (λ m p. (k : ℕ) → k < p → Contains O (get_or (uses_at U m) k 0)) (behind_next at a i)
        (λ m _. a.behind m)

    done_new : (m : ℕ) → Contains O m → IsThrough U N m
    done_new = each (λ m p. Contains O m → p ≡ length (uses_at U m)) (λ is. absurd ((first_open a).1 is))
        (λ m _. a.done m)

    -- its next use isn't taken, and it waits for it
    pub asleep : at < length (uses_at U n) → let u = get_or (uses_at U n) at 0 in
        AreTaken U N (set W u (uses_at W u ++ n ∷ [])) T R O r
    asleep l = record {
      there = a.there;
      passed_counted = length-set P n at ∙ a.passed_counted;
      waiting_counted = length-set W u (uses_at W u ++ n ∷ []) ∙ a.waiting_counted;
      taken_counted = a.taken_counted;
      is_taken = a.is_taken;
      in_turn = a.in_turn;
      within = within_new;
      behind = behind_new;
      done = done_new;
      is_ready = λ m is. (
        (a.is_ready m is).0,
        each (λ k p. R k ≡ true → p ≡ length (uses_at U k))
            (λ ready. absurd (omega (arith, l, i.behind, (a.is_ready n ready).1))) (λ k _ ready. (a.is_ready k ready).1)
            m is,
      );
      waits = waits_new;
      rest = rest_new;
      are_open = λ k d less. a.are_open (suc k) d (omega (arith, less));
    }
      where
        u : ℕ
        u = get_or (uses_at U n) at 0

        u_there : u < length W
        u_there = omega (arith, a.waiting_counted, use_there a n at l)

        u_open : Contains O u → ⊥
        u_open is = true_is_false (sym ((a.is_taken u (use_there a n at l)).1 is) ∙ i.stops l)
          where
            true_is_false : true ≡ false → ⊥
            true_is_false e = absurd (cc)

        at_u : uses_at (set W u (uses_at W u ++ n ∷ [])) u ≡ uses_at W u ++ n ∷ []
        at_u = get_or-set_same W u (uses_at W u ++ n ∷ []) [] u_there

        not_u : (m : ℕ) → m ≢ u → uses_at (set W u (uses_at W u ++ n ∷ [])) m ≡ uses_at W m
        not_u m other = get_or-set_other W u m (uses_at W u ++ n ∷ []) [] other

        -- it waits for its next use
        self : (m : ℕ) → m ≡ u → (n < length U) × IsShort U N n × (awaited U N n ≡ m)
        self m same = (
          (first_open a).0,
          subst (λ p. p < length (uses_at U n)) (sym here) l,
          ap (λ p. get_or (uses_at U n) p 0) here ∙ sym same,
        )

        -- those that waited
        old : (m j : ℕ) → Contains (uses_at W m) j → (Contains O m → ⊥) → (j < length U) × IsShort U N j
            × (awaited U N j ≡ m)
        old m j has never = by (cases_eq j n) (a.waits m j has never)
          where
            by : (j ≡ n) ⊎ (j ≡ n → ⊥) → (j < length U) × IsShort U P j × (awaited U P j ≡ m)
                → (j < length U) × IsShort U N j × (awaited U N j ≡ m)
            by (inl same) w = subst (λ k. (k < length U) × IsShort U N k × (awaited U N k ≡ m)) (sym same)
                (self m (
                let v : (n < length U) × IsShort U P n × (awaited U P n ≡ m)
                = subst (λ k. (k < length U) × IsShort U P k × (awaited U P k ≡ m)) same w in
                sym (ap (λ p. get_or (uses_at U n) p 0) (was_next at m a i never v.1 v.2) ∙ v.2)))
            by (inr other) w = (
              w.0,
              subst (λ p. p < length (uses_at U j)) (sym (there j other)) w.1,
              ap (λ p. get_or (uses_at U j) p 0) (there j other) ∙ w.2,
            )

        waits_new : (m j : ℕ) → Contains (uses_at (set W u (uses_at W u ++ n ∷ [])) m) j → (Contains O m → ⊥)
            → (j < length U) × IsShort U N j × (awaited U N j ≡ m)
        waits_new m j has never = by (cases_eq m u)
          where
            by : (m ≡ u) ⊎ (m ≡ u → ⊥) → (j < length U) × IsShort U N j × (awaited U N j ≡ m)
            by (inl same) = more (Contains-push_cases (uses_at W u) n j
                (subst (λ k. Contains k j) (ap (uses_at (set W u (uses_at W u ++ n ∷ []))) same ∙ at_u) has))
              where
                more : Contains (uses_at W u) j ⊎ (n ≡ j) → (j < length U) × IsShort U N j × (awaited U N j ≡ m)
                more (inl before) = old m j (subst (λ k. Contains (uses_at W k) j) (sym same) before) never
                more (inr is) = subst (λ k. (k < length U) × IsShort U N k × (awaited U N k ≡ m)) is (self m same)
            by (inr other) = old m j (subst (λ k. Contains k j) (not_u m other) has) never

        rest_new : (j : ℕ) → IsOpen U O j → R j ≡ false → (Contains r j → ⊥) → IsShort U N j
            × (Contains O (awaited U N j) → ⊥) × Contains (uses_at (set W u (uses_at W u ++ n ∷ [])) (awaited U N j)) j
        rest_new j free_now unready never = by (cases_eq j n)
          where
            by : (j ≡ n) ⊎ (j ≡ n → ⊥) → IsShort U N j
                × (Contains O (awaited U N j) → ⊥)
                × Contains (uses_at (set W u (uses_at W u ++ n ∷ [])) (awaited U N j)) j
            by (inl same) =
                let s = self u refl in
                let there : Contains (uses_at (set W u (uses_at W u ++ n ∷ [])) u) n
                = subst (λ k. Contains k n) (sym at_u) (Contains-push (uses_at W u) n) in
                subst (λ k. IsShort U N k × (Contains O (awaited U N k) → ⊥)
                × Contains (uses_at (set W u (uses_at W u ++ n ∷ [])) (awaited U N k)) k) (sym same) (
                  s.1,
                  λ is. u_open (subst (Contains O) s.2 is),
                  subst (λ k. Contains (uses_at (set W u (uses_at W u ++ n ∷ [])) k) n) (sym s.2) there,
                )
            by (inr other) = moved (a.rest j free_now unready (λ is. never (tail is)))
              where
                tail : Contains (n ∷ r) j → Contains r j
                tail (zero, l, e) = absurd (other (sym e))
                tail (suc k, l, e) = (k, omega (arith, l), e)

                same_use : awaited U N j ≡ awaited U P j
                same_use = ap (λ p. get_or (uses_at U j) p 0) (there j other)

                kept : (m : ℕ) → Contains (uses_at W m) j → Contains (uses_at (set W u (uses_at W u ++ n ∷ [])) m) j
                kept m has = go (cases_eq m u)
                  where
                    go : (m ≡ u) ⊎ (m ≡ u → ⊥) → Contains (uses_at (set W u (uses_at W u ++ n ∷ [])) m) j
                    go (inl is) = subst (λ k. Contains (uses_at (set W u (uses_at W u ++ n ∷ [])) k) j) (sym is)
                        (subst (λ k. Contains k j) (sym at_u) (Contains-append_left (uses_at W u) (n ∷ []) j
                        (subst (λ k. Contains (uses_at W k) j) is has)))
                    go (inr never) = subst (λ k. Contains k j) (sym (not_u m never)) has

                moved : IsShort U P j × (Contains O (awaited U P j) → ⊥) × Contains (uses_at W (awaited U P j)) j
                    → IsShort U N j × (Contains O (awaited U N j) → ⊥)
                    × Contains (uses_at (set W u (uses_at W u ++ n ∷ [])) (awaited U N j)) j
                moved o = (
                  subst (λ p. p < length (uses_at U j)) (sym (there j other)) o.0,
                  λ is. o.1 (subst (Contains O) same_use is),
                  subst (λ k. Contains (uses_at (set W u (uses_at W u ++ n ∷ [])) k) j) (sym same_use) (kept _ o.2),
                )

    -- it waits for nothing
    pub settled : (S : ℕ → Bool) → ((q : ℕ) → S q ≡ with_ready R n q) → at ≡ length (uses_at U n)
        → AreTaken U N W T S O r
    settled S s all = record {
      there = a.there;
      passed_counted = length-set P n at ∙ a.passed_counted;
      waiting_counted = a.waiting_counted;
      taken_counted = a.taken_counted;
      is_taken = a.is_taken;
      in_turn = a.in_turn;
      within = within_new;
      behind = behind_new;
      done = done_new;
      is_ready = λ m is. ready_new m (sym (s m) ∙ is);
      waits = waits_new;
      rest = λ m free_now unready never. rest_new m free_now (sym (s m) ∙ unready) never;
      are_open = λ k d less. a.are_open (suc k) d (omega (arith, less));
    }
      where
        ready_new : (m : ℕ) → with_ready R n m ≡ true → IsOpen U O m × IsThrough U N m
        ready_new m is = by (cases_eq m n)
          where
            by : (m ≡ n) ⊎ (m ≡ n → ⊥) → IsOpen U O m × IsThrough U N m
            by (inl same) = subst (λ k. IsOpen U O k × IsThrough U N k) (sym same) (first_open a, here ∙ all)
            by (inr other) =
                let old = a.is_ready m
                (sym (ap (λ b. if b then true else R m) (ne_eqb n m (λ e. other (sym e)))) ∙ is) in
                (old.0, there m other ∙ old.1)

        waits_new : (m j : ℕ) → Contains (uses_at W m) j → (Contains O m → ⊥) → (j < length U) × IsShort U N j
            × (awaited U N j ≡ m)
        waits_new m j has never = by (cases_eq j n) (a.waits m j has never)
          where
            by : (j ≡ n) ⊎ (j ≡ n → ⊥) → (j < length U) × IsShort U P j × (awaited U P j ≡ m)
                → (j < length U) × IsShort U N j × (awaited U N j ≡ m)
            by (inl same) w =
                let v : (n < length U) × IsShort U P n × (awaited U P n ≡ m)
                = subst (λ k. (k < length U) × IsShort U P k × (awaited U P k ≡ m)) same w in
                absurd (omega (arith, all, v.1, was_next at m a i never v.1 v.2))
            by (inr other) w = (
              w.0,
              subst (λ p. p < length (uses_at U j)) (sym (there j other)) w.1,
              ap (λ p. get_or (uses_at U j) p 0) (there j other) ∙ w.2,
            )

        rest_new : (j : ℕ) → IsOpen U O j → with_ready R n j ≡ false → (Contains r j → ⊥) → IsShort U N j
            × (Contains O (awaited U N j) → ⊥) × Contains (uses_at W (awaited U N j)) j
        rest_new j free_now unready never = by (cases_eq j n)
          where
            by : (j ≡ n) ⊎ (j ≡ n → ⊥) → IsShort U N j
                × (Contains O (awaited U N j) → ⊥) × Contains (uses_at W (awaited U N j)) j
            by (inl same) = absurd (true_is_false (sym (ap (λ b. if b then true else R j)
                (subst (λ k. nat_eq n k ≡ true) (sym same) (eq-eqb n n refl))) ∙ unready))
              where
                true_is_false : true ≡ false → ⊥
                true_is_false e = absurd (cc)
            by (inr other) = moved (a.rest j free_now
                (sym (ap (λ b. if b then true else R j) (ne_eqb n j (λ e. other (sym e)))) ∙ unready)
                (λ is. never (tail is)))
              where
                tail : Contains (n ∷ r) j → Contains r j
                tail (zero, l, e) = absurd (other (sym e))
                tail (suc k, l, e) = (k, omega (arith, l), e)

                same_use : awaited U N j ≡ awaited U P j
                same_use = ap (λ p. get_or (uses_at U j) p 0) (there j other)

                moved : IsShort U P j × (Contains O (awaited U P j) → ⊥) × Contains (uses_at W (awaited U P j)) j
                    → IsShort U N j × (Contains O (awaited U N j) → ⊥) × Contains (uses_at W (awaited U N j)) j
                moved o = (
                  subst (λ p. p < length (uses_at U j)) (sym (there j other)) o.0,
                  λ is. o.1 (subst (Contains O) same_use is),
                  subst (λ k. Contains (uses_at W k) j) (sym same_use) o.2,
                )

  -- one is taken, and those that wait for it pend
  pub taken : (n : ℕ) → AreTaken U P W T R O (n ∷ []) → IsThrough U P n → ((k : ℕ) → k ≤ n → R k ≡ false)
      → AreTaken U P (set W n []) (set T n true) R (O ++ n ∷ []) (uses_at W n)
  taken n a through least = record {
    there = a.there;
    passed_counted = a.passed_counted;
    waiting_counted = length-set W n [] ∙ a.waiting_counted;
    taken_counted = length-set T n true ∙ a.taken_counted;
    is_taken = taken_new;
    in_turn = next O n a.in_turn free_now.0 free_now.1 ready (λ k less never is. waits_on k less never is);
    within = a.within;
    behind = λ m k less. Contains-append_left O (n ∷ []) _ (a.behind m k less);
    done = λ m is. done_new m (Contains-push_cases O n m is);
    is_ready = λ m is.
        let old = a.is_ready m is in
        ((old.0.0, no_new m old.0.1 (λ e. ready_is_not m e is)), old.1);
    waits = λ m j has never. waits_new m j has never (cases_eq m n);
    rest = rest_new;
    are_open = λ k d less.
        let w = a.waits n (get_or (uses_at W n) k d) (Contains-get_or (uses_at W n) k d less) free_now.1 in
        (w.0, no_new _ (λ is. not_short _ (a.done _ is) w.1) (λ e. not_short n through (subst (IsShort U P) e w.1)));
  }
    where
      free_now : IsOpen U O n
      free_now = first_open a

      there : n < length W
      there = omega (arith, a.waiting_counted, free_now.0)

      not_short : (m : ℕ) → IsThrough U P m → IsShort U P m → ⊥
      not_short m is less = omega (arith, is, less)

      ready_is_not : (m : ℕ) → m ≡ n → R m ≡ true → ⊥
      ready_is_not m e is = two (sym is ∙ least m (omega (arith, e)))
        where
          two : true ≡ false → ⊥
          two e = absurd (cc)

      ready : HasAllTaken U O n
      ready k d less = subst (Contains O) (default k d less) (a.behind n k (omega (arith, through, less)))
        where
          default : (k d : ℕ) → k < length (uses_at U n) → get_or (uses_at U n) k 0 ≡ get_or (uses_at U n) k d
          default k d less = get_or_default (uses_at U n) k 0 d less

      waits_on : (k : ℕ) → k < n → (Contains O k → ⊥) → HasAllTaken U O k → ⊥
      waits_on k less never is =
          let r = a.rest k (omega (arith, less, free_now.0), never) (least k (omega (arith, less))) (apart k less) in
          r.1 (is (passed_at P k) 0 r.0)
        where
          apart : (k : ℕ) → k < n → Contains (n ∷ []) k → ⊥
          apart k less (zero, l, e) = omega (arith, less, e)
          apart k less (suc i, l, e) = omega (arith, l)

      no_new : (m : ℕ) → (Contains O m → ⊥) → m ≢ n → Contains (O ++ n ∷ []) m → ⊥
      no_new m never other is = by (Contains-push_cases O n m is)
        where
          by : Contains O m ⊎ (n ≡ m) → ⊥
          by (inl before) = never before
          by (inr same) = other (sym same)

      taken_new : (m : ℕ) → m < length U → (get_or (set T n true) m false ≡ true) ↔ Contains (O ++ n ∷ []) m
      taken_new m l = by (cases_eq m n)
        where
          by : (m ≡ n) ⊎ (m ≡ n → ⊥) → (get_or (set T n true) m false ≡ true) ↔ Contains (O ++ n ∷ []) m
          by (inl same) = (
            λ _. subst (Contains (O ++ n ∷ [])) (sym same) (Contains-push O n),
            λ _. ap (λ k. get_or (set T n true) k false) same
                ∙ get_or-set_same T n true false (omega (arith, a.taken_counted, free_now.0)),
          )
          by (inr other) =
              let kept = get_or-set_other T n m true false other in (
                λ is. Contains-append_left O (n ∷ []) m ((a.is_taken m l).0 (sym kept ∙ is)),
                λ has. kept ∙ (a.is_taken m l).1 (before has),
              )
            where
              before : Contains (O ++ n ∷ []) m → Contains O m
              before has = go (Contains-push_cases O n m has)
                where
                  go : Contains O m ⊎ (n ≡ m) → Contains O m
                  go (inl is) = is
                  go (inr same) = absurd (other (sym same))

      done_new : (m : ℕ) → Contains O m ⊎ (n ≡ m) → IsThrough U P m
      done_new m (inl is) = a.done m is
      done_new m (inr same) = subst (IsThrough U P) same through

      not_taken : (m : ℕ) → (Contains (O ++ n ∷ []) m → ⊥) → (Contains O m → ⊥) × (m ≢ n)
      not_taken m never = (
        λ is. never (Contains-append_left O (n ∷ []) m is),
        λ same. never (subst (Contains (O ++ n ∷ [])) (sym same) (Contains-push O n)),
      )

      waits_new : (m j : ℕ) → Contains (uses_at (set W n []) m) j → (Contains (O ++ n ∷ []) m → ⊥)
          → (m ≡ n) ⊎ (m ≡ n → ⊥) → (j < length U) × IsShort U P j × (awaited U P j ≡ m)
      waits_new m j has never (inl same) = absurd ((not_taken m never).1 same)
      waits_new m j has never (inr other)
          = a.waits m j (subst (λ k. Contains k j) (get_or-set_other W n m [] [] other) has) (not_taken m never).0

      rest_new : (j : ℕ) → IsOpen U (O ++ n ∷ []) j → R j ≡ false → (Contains (uses_at W n) j → ⊥) → IsShort U P j
          × (Contains (O ++ n ∷ []) (awaited U P j) → ⊥) × Contains (uses_at (set W n []) (awaited U P j)) j
      rest_new j o unready never =
          let free = not_taken j o.1 in
          let old = a.rest j (o.0, free.0) unready (alone free.1) in
          let apart : awaited U P j ≢ n = λ e. never (subst (λ k. Contains (uses_at W k) j) e old.2) in (
            old.0,
            no_new _ old.1 apart,
            subst (λ k. Contains k j) (sym (get_or-set_other W n (awaited U P j) [] [] apart)) old.2,
          )
        where
          alone : j ≢ n → Contains (n ∷ []) j → ⊥
          alone other (zero, l, e) = other (sym e)
          alone other (suc i, l, e) = omega (arith, l)

-- one fewer isn't taken
pub fewer_untaken : (bs : List Bool) (n : ℕ) → n < length bs → get_or bs n false ≡ false
    → count_untaken (set bs n true) < count_untaken bs
fewer_untaken [] n l e = absurd (omega (arith, l))
fewer_untaken (false ∷ bs) zero l e = omega arith
fewer_untaken (true ∷ bs) zero l e = absurd (cc)
fewer_untaken (false ∷ bs) (suc n) l e = omega (arith, fewer_untaken bs n (omega (arith, l)) e)
fewer_untaken (true ∷ bs) (suc n) l e = fewer_untaken bs n (omega (arith, l)) e

module _ (t : Turns) (n : ℕ) (rest : List ℕ) (a : AreTurns t (n ∷ rest)) where
  -- what a thing uses, as it is kept
  pub uses_are : (d : Vec ℕ Global) (us : List ℕ) → us ≡ (get_or t.uses.now n d).items → uses_at (uses_in t) n ≡ us
  uses_are d us is = get_or-map (λ v. v.items) t.uses.now n d [] (omega (
    arith,
    (a.are_open 0 0 (omega arith)).0,
    length-map t.uses.now (λ (v : Vec ℕ Global). v.items),
  )) ∙ sym is

  -- how many of them are passed
  pub from_is : (i : ℕ) → i ≡ get_or t.passed.items n i → passed_at t.passed.items n ≡ i
  from_is i is = get_or_default t.passed.items n 0 i
      (omega (arith, (a.are_open 0 0 (omega arith)).0, a.passed_counted)) ∙ sym is

  -- the next that isn't taken
  pub next_is : (d : Vec ℕ Global) (us : List ℕ) (bits : List Bool) (i at : ℕ) → us ≡ (get_or t.uses.now n d).items
      → bits ≡ t.taken.items → i ≡ get_or t.passed.items n i → IsNextUse us bits i at
      → IsNextUse (uses_at (uses_in t) n) t.taken.items (passed_at t.passed.items n) at
  next_is d us bits i at u b is found
      = subst (λ us. IsNextUse us t.taken.items (passed_at t.passed.items n) at) (sym (uses_are d us u))
      (subst (λ f. IsNextUse us t.taken.items f at) (sym (from_is i is)) (subst (λ bs. IsNextUse us bs i at) b found))

-- a set with one more number
pub with_ready_is : (s new : BTreeSet ℕ) (n : ℕ)
    → ((q : ℕ) → contains nat_cmp new q ≡ cond (is_at (nat_cmp n) q) true (contains nat_cmp s q))
    → (q : ℕ) → contains nat_cmp new q ≡ with_ready (contains nat_cmp s) n q
with_ready_is s new n is q = is q ∙ ap (λ b. cond b true (contains nat_cmp s q)) (at_is n q)
  where
    at_is : (n q : ℕ) → is_at (nat_cmp n) q ≡ nat_eq n q
    at_is n q = grind (arith, nat_tests)

-- numbers from one on are not below it, and are all up to their end
pub numbers_within : (n k : ℕ) → All (λ m. (n ≤ m) × (m < n + k)) (numbers_from n k)
numbers_within n zero i d l = absurd (omega (arith, l))
numbers_within n (suc k) zero d l = (omega arith, omega arith)
numbers_within n (suc k) (suc i) d l
    = let rest = numbers_within (n + 1) k i d (omega (arith, l)) in (omega (arith, rest.0), omega (arith, rest.1))

pub number_from : (n k m : ℕ) → n ≤ m → m < n + k → Contains (numbers_from n k) m
number_from n zero m l h = absurd (omega (arith, l, h))
number_from n (suc k) m l h = by (cases_eq m n) (λ more. number_from (n + 1) k m more (omega (arith, h)))
  where
    later : Contains (numbers_from (n + 1) k) m → Contains (n ∷ numbers_from (n + 1) k) m
    later (i, l, e) = (suc i, omega (arith, l), e)

    by : (m ≡ n) ⊎ (m ≡ n → ⊥) → (n + 1 ≤ m → Contains (numbers_from (n + 1) k) m)
        → Contains (n ∷ numbers_from (n + 1) k) m
    by (inl same) f = (zero, omega arith, sym same)
    by (inr other) f = later (f (above (cases_lt n m)))
      where
        above : (n < m) ⊎ (m ≤ n) → n + 1 ≤ m
        above (inl less) = omega (arith, less)
        above (inr more) = absurd (other (omega (arith, l, more)))

-- nothing is taken
pub nothing_taken : (U : List (List ℕ)) (P : List ℕ) (W : List (List ℕ)) (T : List Bool) (R : ℕ → Bool) → AreThere U
    → length P ≡ length U → length W ≡ length U → length T ≡ length U → ((k : ℕ) → get_or P k 0 ≡ 0)
    → ((k : ℕ) → uses_at W k ≡ []) → ((k : ℕ) → get_or T k false ≡ false) → ((k : ℕ) → R k ≡ false)
    → AreTaken U P W T R [] (numbers_from 0 (length U))
nothing_taken U P W T R all ps ws ts p w t r = record {
  there = all;
  passed_counted = ps;
  waiting_counted = ws;
  taken_counted = ts;
  is_taken = λ n _. (λ is. absurd (two (sym is ∙ t n)), λ has. absurd (omega (arith, has.1)));
  in_turn = none;
  within = λ n. subst (λ k. k ≤ length (uses_at U n)) (sym (p n)) (omega arith);
  behind = λ n k l. absurd (omega (arith, l, p n));
  done = λ n has. absurd (omega (arith, has.1));
  is_ready = λ n is. absurd (two (sym is ∙ r n));
  waits = λ m n has _. absurd (omega (arith, has.1, ap length (w m)));
  rest = λ n free _ never. absurd (never (number_from 0 (length U) n (omega arith) (omega (arith, free.0))));
  are_open = λ k d l. (omega (arith, (numbers_within 0 (length U) k d l).1), λ has. omega (arith, has.1));
}
  where
    two : true ≡ false → ⊥
    two e = absurd (cc)

-- all numbers from the first on
pub numbers_all : (n : ℕ) → numbers_from 0 n ≡ numbers_from 0 (n - 0)
numbers_all n = ap (numbers_from 0) (omega arith)

pub numbers_more : (n m : ℕ) → n < m → numbers_from n (m - n) ≡ n ∷ numbers_from (n + 1) (m - (n + 1))
numbers_more n m l = ap (numbers_from n) (one_more n m l)
  where
    one_more : (n m : ℕ) → n < m → m - n ≡ suc (m - (n + 1))
    one_more n m l = omega (arith, l)

pub numbers_none : (n m : ℕ) → m ≤ n → numbers_from n (m - n) ≡ []
numbers_none n m l = ap (numbers_from n) (none_left n m l)
  where
    none_left : (n m : ℕ) → m ≤ n → m - n ≡ 0
    none_left n m l = omega (arith, l)

-- one that is ready pends, once it is taken out
pub popped : (U : List (List ℕ)) (P : List ℕ) (W : List (List ℕ)) (T : List Bool) (R S : ℕ → Bool) (O : List ℕ) (n : ℕ)
    → AreTaken U P W T R O [] → R n ≡ true → ((q : ℕ) → S q ≡ cond (is_at (nat_cmp n) q) false (R q))
    → AreTaken U P W T S O (n ∷ [])
popped U P W T R S O n a is s = record {
  there = a.there;
  passed_counted = a.passed_counted;
  waiting_counted = a.waiting_counted;
  taken_counted = a.taken_counted;
  is_taken = a.is_taken;
  in_turn = a.in_turn;
  within = a.within;
  behind = a.behind;
  done = a.done;
  is_ready = λ m e. a.is_ready m (was m (sym (s m) ∙ e));
  waits = a.waits;
  rest = λ m free unready alone. a.rest m free (kept m (λ e. alone (zero, omega arith, sym e)) (sym (s m) ∙ unready))
      (λ h. omega (arith, h.1));
  are_open = λ k d l. only k d l;
}
  where
    at_is : (n q : ℕ) → is_at (nat_cmp n) q ≡ nat_eq n q
    at_is n q = grind (arith, nat_tests)

    was : (m : ℕ) → cond (is_at (nat_cmp n) m) false (R m) ≡ true → R m ≡ true
    was m e = by (is_at (nat_cmp n) m) e
      where
        by : (b : Bool) → cond b false (R m) ≡ true → R m ≡ true
        by true e = absurd (cc)
        by false e = e

    kept : (m : ℕ) → m ≢ n → cond (is_at (nat_cmp n) m) false (R m) ≡ false → R m ≡ false
    kept m other e = sym (ap (λ b. cond b false (R m)) (at_is n m ∙ ne_eqb n m (λ k. other (sym k)))) ∙ e

    only : (k d : ℕ) → k < 1 → IsOpen U O (get_or (n ∷ []) k d)
    only zero d l = (a.is_ready n is).0
    only (suc k) d l = absurd (omega (arith, l))

-- all that can be is taken
pub last_turn : (U : List (List ℕ)) (P : List ℕ) (W : List (List ℕ)) (T : List Bool) (R : ℕ → Bool) (O : List ℕ)
    → AreTaken U P W T R O [] → ((k : ℕ) → R k ≡ false) → IsLastTurn U O
last_turn U P W T R O a unready n l never ready =
    let r = a.rest n (l, never) (unready n) (λ h. omega (arith, h.1)) in r.1 (ready (passed_at P n) 0 r.0)

-- all are taken, where none is found that isn't
none_left_over : (bs : List Bool) (i : ℕ) → position_from not i bs ≡ None → (n : ℕ) → n < length bs
    → get_or bs n false ≡ true
none_left_over [] i e n l = absurd (omega (arith, l))
none_left_over (true ∷ bs) i e zero l = refl
none_left_over (true ∷ bs) i e (suc n) l = none_left_over bs (i + 1) e n (omega (arith, l))
none_left_over (false ∷ bs) i e n l = absurd (cc)

-- the first that isn't taken, if there is one
pub left_over : (U : List (List ℕ)) (P : List ℕ) (W : List (List ℕ)) (T : List Bool) (R : ℕ → Bool) (O : List ℕ)
    → AreTaken U P W T R O [] → (left : Option ℕ) → left ≡ position not T
    → MatchOption left ((n : ℕ) → n < length U → Contains O n) (λ n. (n < length U) × (Contains O n → ⊥))
left_over U P W T R O a None is = λ n l. (a.is_taken n l).0 (all n (omega (arith, l, a.taken_counted)))
  where
    all : (n : ℕ) → n < length T → get_or T n false ≡ true
    all n l = none_left_over T 0 (sym (position_from-zero not T) ∙ sym is) n l
left_over U P W T R O a (Some n) is =
    let found = position-Some not T n false (sym is) in
    let l : n < length U = omega (arith, found.0, a.taken_counted) in
    (l, λ has. two (sym ((a.is_taken n l).1 has) ∙ not-true _ found.1))
  where
    two : true ≡ false → ⊥
    two e = absurd (cc)
