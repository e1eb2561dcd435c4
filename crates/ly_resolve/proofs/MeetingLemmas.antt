-- What is done and what is counted where some actions are asked for.
use Rattle.std.proofs.Common.{◌≡◌, ◌∙◌, inl, inr, ◌↔◌, ℕ, zero, suc, ◌<◌, ◌≤◌, List, [], ◌∷◌, ◌++◌, Bool, true}
use Rattle.std.proofs.Common.{false}
use Rattle.std.proofs.Common.{append-nil, slice_index_or, take, ◌+◌}
use Rattle.std.proofs.Common.{Some, Contains, IsTrue, ap, arith, cond, length, map, not, nat_eq, refl, slice_get, subst}
use Rattle.std.proofs.Common.{sym, ◌&&◌, ◌||◌}
use Rattle.std.specs.List.{AllPairs, filter}
use Rattle.std.proofs.lemmas.Bool.{and_parts, cases_eq, cases_lt, cases_order, eq-eqb, ne_eqb}
use Rattle.std.proofs.lemmas.List.{map-append, take_more}
use Rattle.std.proofs.lemmas.List.Elements.{filter-append}
use Rattle.std.proofs.lemmas.List.Elements.{All-contains_itself, All-weaker, Contains-append_cases}
use Rattle.std.proofs.lemmas.List.Elements.{Contains-append_left, Contains-append_right}
use Rattle.std.proofs.lemmas.List.Kept.{AllPairs-cons, AllPairs-filter}
use Rattle.std.proofs.lemmas.Option.{get_or_from_slice_get, slice_get-get_or, slice_get_within}
use Rattle.ly_base.proofs.MemberLemmas.{Contains-cons_cases, Contains-first, Contains-later, Contains-none}
use Rattle.ly_base.proofs.MemberLemmas.{Contains-one}
use Rattle.ly_base.proofs.ListLemmas.{AllPairs-append, AllPairs-head, AllPairs-tail}
use Rattle.ly_join.specs.Grammar.{Symbol}
use Rattle.ly_join.proofs.ListLemmas.{in_mapped, mapped_in, member_at, placed}
use Rattle.ly_resolve.specs.Actions.{Action, Stays, PrecedenceVerdict, IsDone, error, reduce, shift, to_error}
use Rattle.ly_resolve.specs.Actions.{to_reduce, to_shift, unsettled}
use Rattle.ly_resolve.specs.Conflicts.{Conflict, CountsAs, Kind, IsBefore, IsKindBefore, reduce_reduce, shift_reduce}
use Rattle.ly_resolve.specs.Private.Meetings.{all_told, is_counted, is_for_reduction, is_unsettled, reduces_by, told}
use Rattle.ly_resolve.specs.Private.Meetings.{AreMany, IsAskedBy}

-- WHERE THE SAME ACTIONS ARE ASKED FOR

module _ (A B : Action → Type 0) (v : ℕ → PrecedenceVerdict) (same : (a : Action) → A a ↔ B a) where
  stays_too : (p : ℕ) → Stays A v p → Stays B v p
  stays_too p s = ((same (reduce p)).0 s.0, λ b. s.1 ((same shift).1 b))

  stays_back : (p : ℕ) → Stays B v p → Stays A v p
  stays_back p s = ((same (reduce p)).1 s.0, λ a. s.1 ((same shift).0 a))

  -- the same is done
  pub done_too : (a : Action) → IsDone A v a → IsDone B v a
  done_too shift d = ((same shift).0 d.0, λ p b. d.1 p ((same (reduce p)).1 b))
  done_too (reduce p) d = (stays_too p d.0, λ q s. d.1 q (stays_back q s))
  done_too error d = (
    (same shift).0 d.0,
    (λ p b. d.1 p ((same (reduce p)).1 b)),
    d.2,
    (same (reduce d.2)).0 d.3,
    d.4,
  )

  -- and the same is counted
  pub counts_too : (k : Kind) (p : ℕ) → CountsAs A v k p → CountsAs B v k p
  counts_too shift_reduce p c = ((same shift).0 c.0, (same (reduce p)).0 c.1, c.2)
  counts_too reduce_reduce p c = (stays_too p c.0, c.1, c.2, stays_too c.1 c.3)

-- one thing is done
module _ (A : Action → Type 0) (v : ℕ → PrecedenceVerdict) where
  shift_not_reduce : (p : ℕ) → IsDone A v shift → Stays A v p → ⊥
  shift_not_reduce p d s = elim (d.1 p s.0) [
    | inl e ↦ (let no : to_shift ≡ to_reduce → ⊥ = λ z. cc in no (sym e ∙ s.1 d.0))
    | inr e ↦ (let no : unsettled ≡ to_reduce → ⊥ = λ z. cc in no (sym e ∙ s.1 d.0))
  ]

  error_not_reduce : (p : ℕ) → IsDone A v error → Stays A v p → ⊥
  error_not_reduce p d s = d.1 p s.0 (s.1 d.0)

  error_not_shift : IsDone A v error → IsDone A v shift → ⊥
  error_not_shift d e = elim (e.1 d.2 d.3) [
    | inl x ↦ (let no : to_shift ≡ to_error → ⊥ = λ z. cc in no (sym x ∙ d.4))
    | inr x ↦ (let no : unsettled ≡ to_error → ⊥ = λ z. cc in no (sym x ∙ d.4))
  ]

  pub done_once : (a b : Action) → IsDone A v a → IsDone A v b → a ≡ b
  done_once shift shift d e = refl
  done_once shift (reduce p) d e = absurd (shift_not_reduce p d e.0)
  done_once shift error d e = absurd (error_not_shift e d)
  done_once (reduce p) shift d e = absurd (shift_not_reduce p e d.0)
  done_once (reduce p) (reduce q) d e = ap reduce
      (let a = d.1 q e.0 in let b = e.1 p d.0 in let same : p ≡ q = omega (arith, a, b) in same)
  done_once (reduce p) error d e = absurd (error_not_reduce p e d.0)
  done_once error shift d e = absurd (error_not_shift d e)
  done_once error (reduce p) d e = absurd (error_not_reduce p d e.0)
  done_once error error d e = refl

  -- what stays and isn't chosen stays behind an earlier one
  stays_behind : (a : Action) (p : ℕ) → IsDone A v a → Stays A v p → (a ≡ reduce p → ⊥)
      → (q : ℕ) × (q < p) × Stays A v q
  stays_behind shift p d s ne = absurd (shift_not_reduce p d s)
  stays_behind error p d s ne = absurd (error_not_reduce p d s)
  stays_behind (reduce q) p d s ne = (
    q,
    elim (cases_eq q p) [
      | inl e ↦ absurd (ne (ap reduce e))
      | inr off ↦ (let le = d.1 p s in let less : q < p = omega (arith, le, off) in less)
    ],
    d.0,
  )

  -- where two actions are counted against each other, there are two
  pub counts_many : (k : Kind) (p : ℕ) → CountsAs A v k p → (a : Action) × (b : Action) × A a × A b × (a ≡ b → ⊥)
  counts_many shift_reduce p c = (shift, reduce p, c.0, c.1, λ e. (let no : shift ≡ reduce p → ⊥ = λ z. cc in no e))
  counts_many reduce_reduce p c = (
    reduce p,
    reduce c.1,
    c.0.0,
    c.3.0,
    λ e.
        let same : p ≡ c.1 = cc in let less = c.2 in omega (arith, same, less),
  )

-- WHAT IS COUNTED, BY TRUTH VALUES

for_reduction : (x : PrecedenceVerdict) → IsTrue (is_for_reduction x) → x ≡ to_reduce
for_reduction to_reduce h = refl
for_reduction to_shift h = absurd (cc)
for_reduction to_error h = absurd (cc)
for_reduction unsettled h = absurd (cc)

says_nothing : (x : PrecedenceVerdict) → IsTrue (is_unsettled x) → x ≡ unsettled
says_nothing to_reduce h = absurd (cc)
says_nothing to_shift h = absurd (cc)
says_nothing to_error h = absurd (cc)
says_nothing unsettled h = refl

either : (s r : Bool) → IsTrue (not s || r) → IsTrue s → IsTrue r
either true r h e = h
either false r h e = absurd (cc)

not_chosen : (a : Action) (p : ℕ) → IsTrue (not (reduces_by a p)) → a ≡ reduce p → ⊥
not_chosen (reduce q) p h e =
    let same : q ≡ p = cc in
    let yes : nat_eq q p ≡ true = eq-eqb q p same in
    let no : not true ≡ true → ⊥ = λ z. cc in
    no (ap not (sym yes) ∙ h)
not_chosen shift p h e = let no : shift ≡ reduce p → ⊥ = λ z. cc in no e
not_chosen error p h e = let no : error ≡ reduce p → ⊥ = λ z. cc in no e

is_not_chosen : (a : Action) (p : ℕ) → (a ≡ reduce p → ⊥) → not (reduces_by a p) ≡ true
is_not_chosen shift p ne = refl
is_not_chosen error p ne = refl
is_not_chosen (reduce q) p ne = ap not (ne_eqb q p (λ e. ne (ap reduce e)))

stays_by : (s : Bool) (x : PrecedenceVerdict) → (IsTrue s → x ≡ to_reduce) → (not s || is_for_reduction x) ≡ true
stays_by true x h = ap is_for_reduction (h refl)
stays_by false x h = refl

module _ (s : Bool) (rs : List ℕ) (v : ℕ → PrecedenceVerdict) (a : Action) (done : IsDone (IsAskedBy s rs) v a) where
  -- what is counted by truth values counts
  counted_to : (k : Kind) (p : ℕ) → Contains rs p → IsTrue (is_counted s v a k p) → CountsAs (IsAskedBy s rs) v k p
  counted_to shift_reduce p has h =
      let parts = and_parts s (is_unsettled (v p)) h in (parts.0, has, says_nothing (v p) parts.1)
  counted_to reduce_reduce p has h =
      let parts = and_parts (not (reduces_by a p)) (not s || is_for_reduction (v p)) h in
      let stays : Stays (IsAskedBy s rs) v p
      = (has, λ e. for_reduction (v p) (either s (is_for_reduction (v p)) parts.1 e)) in
      let before = stays_behind (IsAskedBy s rs) v a p done stays (not_chosen a p parts.0) in
      (stays, before.0, before.1, before.2)

  counted_back : (k : Kind) (p : ℕ) → CountsAs (IsAskedBy s rs) v k p → Contains rs p × IsTrue (is_counted s v a k p)
  counted_back shift_reduce p c = (
    c.1,
    ap (λ x. x && is_unsettled (v p)) c.0 ∙ ap is_unsettled c.2,
  )
  counted_back reduce_reduce p c = (
    c.0.0,
    ap (λ x. x && (not s || is_for_reduction (v p))) (is_not_chosen a p (λ e.
        let least = (subst (IsDone (IsAskedBy s rs) v) e done).1 c.1 c.3 in let less = c.2 in
        omega (arith, least, less)))
        ∙ stays_by s (v p) c.0.1,
  )

-- LISTS

pub filter_in : {X : Type 0} (t : X → Bool) (xs : List X) (x : X) → Contains (filter t xs) x
    → Contains xs x × IsTrue (t x)
filter_in t [] x has = Contains-none x has
filter_in t (y ∷ xs) x has = at (t y) refl (filter_in t xs x) where
  at : (b : Bool) → t y ≡ b → (Contains (filter t xs) x → Contains xs x × IsTrue (t x))
      → Contains (y ∷ xs) x × IsTrue (t x)
  at true e later = elim (Contains-cons_cases y (filter t xs) x
      (subst (λ b. Contains (cond b (y ∷ filter t xs) (filter t xs)) x) e has)) [
        | inl same ↦ (subst (Contains (y ∷ xs)) same (Contains-first y xs), subst (λ z. t z ≡ true) same e)
        | inr more ↦ (let r = later more in (Contains-later y xs x r.0, r.1))
      ]
  at false e later =
      let r = later (subst (λ b. Contains (cond b (y ∷ filter t xs) (filter t xs)) x) e has) in
      (Contains-later y xs x r.0, r.1)

pub in_filter : {X : Type 0} (t : X → Bool) (xs : List X) (x : X) → Contains xs x → IsTrue (t x)
    → Contains (filter t xs) x
in_filter t [] x has h = Contains-none x has
in_filter t (y ∷ xs) x has h = elim (Contains-cons_cases y xs x has) [
  | inl same ↦ subst (λ b. Contains (cond b (y ∷ filter t xs) (filter t xs)) x) (sym (ap t same ∙ h))
      (subst (Contains (y ∷ filter t xs)) same (Contains-first y (filter t xs)))
  | inr later ↦ at (t y) (in_filter t xs x later h)
]
  where
    at : (b : Bool) → Contains (filter t xs) x → Contains (cond b (y ∷ filter t xs) (filter t xs)) x
    at true later = Contains-later y (filter t xs) x later
    at false later = later

pub AllPairs-map : {X Y : Type 0} (R : Y → Y → Type 0) (f : X → Y) (xs : List X) → AllPairs (λ x y. R (f x) (f y)) xs
    → AllPairs R (map f xs)
AllPairs-map R f [] pairs = λ i j d l m. absurd (omega (arith, m))
AllPairs-map R f (x ∷ xs) pairs = AllPairs-cons R (f x) (map f xs)
    (All-weaker (Contains (map f xs)) (R (f x)) each (map f xs) (All-contains_itself (map f xs)))
    (AllPairs-map R f xs (AllPairs-tail (λ x y. R (f x) (f y)) x xs pairs))
  where
    each : (z : _) → Contains (map f xs) z → R (f x) z
    each z has = let w = in_mapped f xs z has in
        subst (R (f x)) w.2 (AllPairs-head (λ x y. R (f x) (f y)) x w.0 xs pairs w.1)

-- WHAT IS TOLD

-- a conflict at a string before a terminal
abbrev conflict_at : List Symbol → ℕ → Action → Kind → ℕ → Conflict
conflict_at g t a k p = record { prefix = g; terminal = t; kind = k; rule = p; choice = a }

-- What a conflict says that is told at a string before a terminal.
pub record IsToldAt (g : List Symbol) (t : ℕ) (A : Action → Type 0) (v : ℕ → PrecedenceVerdict) (a : Action)
    (c : Conflict) : Type 0 where
  pub prefix : c.prefix ≡ g
  pub terminal : c.terminal ≡ t
  pub choice : c.choice ≡ a
  pub counts : CountsAs A v c.kind c.rule

module _ (g : List Symbol) (t : ℕ) (s : Bool) (rs : List ℕ) (v : ℕ → PrecedenceVerdict) (a : Action)
    (done : IsDone (IsAskedBy s rs) v a) where
  told_kind : (k : Kind) (c : Conflict) → Contains (told g t s rs v a k) c
      → (c.kind ≡ k) × IsToldAt g t (IsAskedBy s rs) v a c
  told_kind k c has =
      let w = in_mapped (conflict_at g t a k) (filter (is_counted s v a k) rs) c has in
      let r = filter_in (is_counted s v a k) rs w.0 w.1 in (
        ap (λ x. x.kind) (sym w.2),
        record {
          prefix = ap (λ x. x.prefix) (sym w.2);
          terminal = ap (λ x. x.terminal) (sym w.2);
          choice = ap (λ x. x.choice) (sym w.2);
          counts = subst (λ x. CountsAs (IsAskedBy s rs) v x.kind x.rule) w.2
              (counted_to s rs v a done k w.0 r.0 r.1);
        },
      )

  told_here : (k : Kind) (c : Conflict) → c.kind ≡ k → IsToldAt g t (IsAskedBy s rs) v a c
      → Contains (told g t s rs v a k) c
  told_here k c e is =
      let counts : CountsAs (IsAskedBy s rs) v k c.rule = subst
      (λ x. CountsAs (IsAskedBy s rs) v x c.rule) e is.counts in
      let r = counted_back s rs v a done k c.rule counts in
      let same : conflict_at g t a k c.rule ≡ c = conflict_is c k e is in
      subst (Contains (told g t s rs v a k)) same
      (mapped_in (conflict_at g t a k) (filter (is_counted s v a k) rs) c.rule
      (in_filter (is_counted s v a k) rs c.rule r.0 r.1))
    where
      conflict_is : (c : Conflict) (k : Kind) → c.kind ≡ k → IsToldAt g t (IsAskedBy s rs) v a c
          → conflict_at g t a k c.rule ≡ c
      conflict_is c k e is =
          ap (λ x. conflict_at x t a k c.rule) (sym is.prefix)
          ∙ ap (λ x. conflict_at c.prefix x a k c.rule) (sym is.terminal)
          ∙ ap (λ x. conflict_at c.prefix c.terminal x k c.rule) (sym is.choice)
          ∙ ap (λ x. conflict_at c.prefix c.terminal c.choice x c.rule) (sym e)

  -- all that is told, and no more
  pub told_are : (c : Conflict) → Contains (all_told g t s rs v a) c ↔ IsToldAt g t (IsAskedBy s rs) v a c
  told_are c = (to, back) where
    to : Contains (all_told g t s rs v a) c → IsToldAt g t (IsAskedBy s rs) v a c
    to has = elim (Contains-append_cases (told g t s rs v a shift_reduce) (told g t s rs v a reduce_reduce) c has) [
      | inl h ↦ (told_kind shift_reduce c h).1
      | inr h ↦ (told_kind reduce_reduce c h).1
    ]

    back : IsToldAt g t (IsAskedBy s rs) v a c → Contains (all_told g t s rs v a) c
    back is = at c.kind refl where
      at : (k : Kind) → c.kind ≡ k → Contains (all_told g t s rs v a) c
      at shift_reduce e = Contains-append_left (told g t s rs v a shift_reduce) (told g t s rs v a reduce_reduce) c
          (told_here shift_reduce c e is)
      at reduce_reduce e = Contains-append_right (told g t s rs v a shift_reduce) (told g t s rs v a reduce_reduce) c
          (told_here reduce_reduce c e is)

  told_rises : (k : Kind) → AllPairs (λ p q. p < q) rs → AllPairs IsBefore (told g t s rs v a k)
  told_rises k rising = AllPairs-map IsBefore (conflict_at g t a k) (filter (is_counted s v a k) rs)
      (λ i j d l m. inr (
        refl,
        inr (
          refl,
          inr (
            refl,
            AllPairs-filter (λ p q. p < q) (is_counted s v a k) rs rising i j d l m,
          ),
        ),
      ))

  -- in order
  pub told_ordered : AllPairs (λ p q. p < q) rs → AllPairs IsBefore (all_told g t s rs v a)
  told_ordered rising = AllPairs-append IsBefore (told g t s rs v a shift_reduce) (told g t s rs v a reduce_reduce)
      (told_rises shift_reduce rising) (told_rises reduce_reduce rising) across
    where
      across : (c d : Conflict) → Contains (told g t s rs v a shift_reduce) c
          → Contains (told g t s rs v a reduce_reduce) d → IsBefore c d
      across c d hc hd =
          let x = told_kind shift_reduce c hc in
          let y = told_kind reduce_reduce d hd in
          inr (x.1.prefix ∙ sym y.1.prefix, inr (x.1.terminal ∙ sym y.1.terminal, inl (kinds c.kind d.kind x.0 y.0)))
        where
          kinds : (k l : Kind) → k ≡ shift_reduce → l ≡ reduce_reduce → IsKindBefore k l
          kinds shift_reduce reduce_reduce e f = tt
          kinds shift_reduce shift_reduce e f = absurd (let no : shift_reduce ≡ reduce_reduce → ⊥ = λ z. cc in no f)
          kinds reduce_reduce l e f = absurd (let no : reduce_reduce ≡ shift_reduce → ⊥ = λ z. cc in no e)

-- SINGLE ACTIONS

-- members of a list that is shorter than two are one
one_member : (rs : List ℕ) (p q : ℕ) → length rs < 2 → Contains rs p → Contains rs q → p ≡ q
one_member [] p q lt a b = Contains-none p a
one_member (r ∷ []) p q lt a b = sym (Contains-one r p a) ∙ Contains-one r q b
one_member (r ∷ u ∷ rs) p q lt a b = absurd (omega (arith, lt))

some_member : (rs : List ℕ) (p : ℕ) → Contains rs p → 1 ≤ length rs
some_member [] p has = Contains-none p has
some_member (r ∷ rs) p has = omega arith

-- where not many actions are asked for, there is one
pub single : (s : Bool) (rs : List ℕ) → (AreMany s rs → ⊥) → (a b : Action) → IsAskedBy s rs a → IsAskedBy s rs b → a
    ≡ b
single s rs few shift shift x y = refl
single s rs few shift (reduce q) x y = absurd (few (inr (x, some_member rs q y)))
single s rs few shift error x y = absurd y
single s rs few (reduce p) shift x y = absurd (few (inr (y, some_member rs p x)))
single s rs few (reduce p) (reduce q) x y = elim (cases_lt (length rs) 2) [
  | inl lt ↦ ap reduce (one_member rs p q lt x y)
  | inr le ↦ absurd (few (inl (omega (arith, le))))
]
single s rs few (reduce p) error x y = absurd y
single s rs few error b x y = absurd x

-- and where many are, there are two
pub not_single : (s : Bool) (rs : List ℕ) → AllPairs (λ p q. p < q) rs → AreMany s rs
    → ((a b : Action) → IsAskedBy s rs a → IsAskedBy s rs b → a ≡ b) → ⊥
not_single s (p ∷ q ∷ rs) rising (inl le) one =
    let same = one (reduce p) (reduce q) (Contains-first p (q ∷ rs))
    (Contains-later p (q ∷ rs) q (Contains-first q rs)) in
    let e : p ≡ q = cc in
    let less : p < q = rising 0 1 p (omega arith) (omega arith) in
    omega (arith, e, less)
not_single s (p ∷ []) rising (inl le) one = omega (arith, le)
not_single s [] rising (inl le) one = omega (arith, le)
not_single s [] rising (inr (t, le)) one = omega (arith, le)
not_single s (p ∷ rs) rising (inr (t, le)) one =
    let same : shift ≡ reduce p = one shift (reduce p) t (Contains-first p rs) in
    let no : shift ≡ reduce p → ⊥ = λ z. cc in
    no same

-- where no two actions are asked for, nothing is told
pub told_none : (g : List Symbol) (t : ℕ) (s : Bool) (rs : List ℕ) (v : ℕ → PrecedenceVerdict) (a : Action)
    → IsDone (IsAskedBy s rs) v a → AllPairs (λ p q. p < q) rs → (AreMany s rs → ⊥) → all_told g t s rs v a ≡ []
told_none g t s rs v a done rising few = empty (all_told g t s rs v a) (λ c has.
    let w = (told_are g t s rs v a done c).0 has in
    let two = counts_many (IsAskedBy s rs) v c.kind c.rule w.counts in
    two.4 (single s rs few two.0 two.1 two.2 two.3))
  where
    empty : (cs : List Conflict) → ((c : Conflict) → Contains cs c → ⊥) → cs ≡ []
    empty [] off = refl
    empty (c ∷ cs) off = absurd (off c (Contains-first c cs))

-- RULE BY RULE

-- what stands at an earlier place is among the first
pub take_has : {X : Type 0} (xs : List X) (i k : ℕ) (x : X) → k < i → slice_get xs k ≡ Some x → Contains (take i xs) x
take_has [] i k x lt at = absurd (cc)
take_has (y ∷ xs) zero k x lt at = absurd (omega (arith, lt))
take_has (y ∷ xs) (suc i) zero x lt at = let e : y ≡ x = cc in
    subst (Contains (y ∷ take i xs)) e (Contains-first y (take i xs))
take_has (y ∷ xs) (suc i) (suc k) x lt at = Contains-later y (take i xs) x (take_has xs i k x (omega (arith, lt)) at)

-- a list that is gone through is all there
pub taken_all : {X : Type 0} (xs : List X) (i : ℕ) (x : X) → length xs ≤ i → Contains xs x → Contains (take i xs) x
taken_all xs i x le has =
    let k = placed xs x has in
    take_has xs i k.0 x (let lt = slice_get_within xs k.0 x k.1 in omega (arith, lt, le)) k.1

module _ (s : Bool) (rs : List ℕ) (v : ℕ → PrecedenceVerdict) (i : ℕ) where
  -- the first rule that stays is what is done
  pub earliest_found : i < length rs → AllPairs (λ p q. p < q) rs
      → ((p : ℕ) → Contains (take i rs) p → (IsTrue s → v p ≡ to_reduce) → ⊥)
      → (IsTrue s → v (slice_index_or rs i 0) ≡ to_reduce)
      → IsDone (IsAskedBy s rs) v (reduce (slice_index_or rs i 0))
  earliest_found lt rising before stays =
      let at = slice_get-get_or rs i 0 lt in
      ((member_at rs i (slice_index_or rs i 0) at, stays), least at)
    where
      least : slice_get rs i ≡ Some (slice_index_or rs i 0) → (q : ℕ) → Stays (IsAskedBy s rs) v q
          → slice_index_or rs i 0 ≤ q
      least at q stay = at_place (placed rs q stay.0) where
        at_place : (k : ℕ) × (slice_get rs k ≡ Some q) → slice_index_or rs i 0 ≤ q
        at_place (k, there) = elim (cases_order k i) [
          | inl same ↦
              let one : Some q ≡ Some (slice_index_or rs i 0) = sym there ∙ (ap (slice_get rs) same ∙ at) in
              let e : q ≡ slice_index_or rs i 0 = cc in
              omega (arith, e)
          | inr (inl less) ↦ absurd (before q (take_has rs i k q less there) stay.1)
          | inr (inr past) ↦
              let less = rising i k 0 past (slice_get_within rs k q there) in
              let e = get_or_from_slice_get rs k q 0 there in
              omega (arith, less, e)
        ]

  pub earliest_none : length rs ≤ i → ((p : ℕ) → Contains (take i rs) p → (IsTrue s → v p ≡ to_reduce) → ⊥)
      → (p : ℕ) → Stays (IsAskedBy s rs) v p → ⊥
  earliest_none le before p stay = before p (taken_all rs i p le stay.0) stay.1

  -- one more rule is told of, or isn't
  pub told_rule : (g : List Symbol) (t : ℕ) (a : Action) (k : Kind) → i < length rs
      → is_counted s v a k (slice_index_or rs i 0) ≡ true → told g t s (take (i + 1) rs) v a k
      ≡ told g t s (take i rs) v a k ++ conflict_at g t a k (slice_index_or rs i 0) ∷ []
  told_rule g t a k lt counted =
      ap (λ w. map (conflict_at g t a k) (filter (is_counted s v a k) w)) (take_more rs i 0 lt)
      ∙ ap (map (conflict_at g t a k))
      (filter-append (is_counted s v a k) (take i rs) (slice_index_or rs i 0 ∷ []))
      ∙ map-append (conflict_at g t a k) (filter (is_counted s v a k) (take i rs))
      (filter (is_counted s v a k) (slice_index_or rs i 0 ∷ []))
      ∙ ap (λ b. told g t s (take i rs) v a k
      ++ map (conflict_at g t a k) (cond b (slice_index_or rs i 0 ∷ []) [])) counted

  pub told_past : (g : List Symbol) (t : ℕ) (a : Action) (k : Kind) → i < length rs
      → is_counted s v a k (slice_index_or rs i 0) ≡ false
      → told g t s (take (i + 1) rs) v a k ≡ told g t s (take i rs) v a k
  told_past g t a k lt counted =
      ap (λ w. map (conflict_at g t a k) (filter (is_counted s v a k) w)) (take_more rs i 0 lt)
      ∙ ap (map (conflict_at g t a k))
      (filter-append (is_counted s v a k) (take i rs) (slice_index_or rs i 0 ∷ []))
      ∙ map-append (conflict_at g t a k) (filter (is_counted s v a k) (take i rs))
      (filter (is_counted s v a k) (slice_index_or rs i 0 ∷ []))
      ∙ ap (λ b. told g t s (take i rs) v a k
      ++ map (conflict_at g t a k) (cond b (slice_index_or rs i 0 ∷ []) [])) counted
      ∙ append-nil (told g t s (take i rs) v a k)

-- where no reduction stays and no shift is asked for, nothing is
pub nothing_asked : (s : Bool) (rs : List ℕ) (v : ℕ → PrecedenceVerdict) → s ≡ false
    → ((p : ℕ) → Stays (IsAskedBy s rs) v p → ⊥) → (a : Action) → IsAskedBy s rs a → ⊥
nothing_asked true rs v off none a asked = absurd (cc)
nothing_asked false rs v off none shift asked = absurd (cc)
nothing_asked false rs v off none (reduce p) asked = none p (asked, λ e. absurd (cc))
nothing_asked false rs v off none error asked = asked
