-- The lists of what is reached by forks alone: they have just what runs come to, each once.
use Rattle.std.proofs.Common.{◌≡◌, ◌≢◌, ◌⊎◌, inl, inr, ℕ, zero, suc, ◌<◌, List, [], ◌∷◌, Option, Some, None, Bool}
use Rattle.std.proofs.Common.{true}
use Rattle.std.proofs.Common.{filter, length, refl, ap, subst, ◌∙◌, arith, eqb-true}
use Rattle.std.specs.Prelude.{All, AllPairs, Contains, slice_get, ◌↔◌}
use Rattle.std.specs.List.{range_with_len}
use Rattle.std.proofs.lemmas.Bool.{and_from, and_parts, cases_eq, cases_Bool, eq-eqb, or_cases, or_left, or_right}
use Rattle.std.proofs.lemmas.List.Elements.{All-contains, All-filter, filter_passes}
use Rattle.std.proofs.lemmas.List.FromFn.{get_or-range_with_len, length-range_with_len}
use Rattle.std.proofs.lemmas.List.Kept.{AllPairs-filter}
use Rattle.std.proofs.lemmas.Option.{slice_get_within}
use Rattle.ly_base.proofs.MemberLemmas.{Contains-cons_cases, Contains-first, Contains-later, Contains-none}
use Rattle.ly_position.specs.Position.{either_side, forks_to, reached_from, same_target}
use Rattle.ly_position.specs.Private.Targets.{IsSide, ForksTo, here, onward}
use Rattle.ly_position.specs.declared.nfa.Fork.{Fork}
use Rattle.ly_position.specs.declared.nfa.Target.{Target}
use Rattle.ly_position.specs.declared.nfa.Target.TheVariants as target

same_itself : (t : Target) → same_target t t ≡ true
same_itself (target.Position p) = eq-eqb p p refl
same_itself (target.Fork k) = eq-eqb k k refl

same_is : (t u : Target) → same_target t u ≡ true → t ≡ u
same_is (target.Position p) (target.Position q) h = ap target.Position (eqb-true p q h)
same_is (target.Position p) (target.Fork k) h = cc
same_is (target.Fork j) (target.Position q) h = cc
same_is (target.Fork j) (target.Fork k) h = ap target.Fork (eqb-true j k h)

-- one run after another
forks_to-then : (forks : List Fork) (r t u : Target) → ForksTo forks r t → ForksTo forks t u → ForksTo forks r u
forks_to-then forks r t u h here = h
forks_to-then forks r t u h (onward {k = k} x e i) = onward (forks_to-then forks r t (target.Fork k) h x) e i

forks_to-itself : (forks : List Fork) (k : ℕ) (t : Target) → forks_to forks k t t ≡ true
forks_to-itself forks zero t = same_itself t
forks_to-itself forks (suc k) t = or_left (forks_to forks k t t) _ (forks_to-itself forks k t)

module _ (forks : List Fork) where
  -- through the last fork
  abbrev Through : ℕ → Target → Target → Type 0
  Through k t u = (forks_to forks k t (target.Fork k) ≡ true) × (f : Fork) × (slice_get forks k ≡ Some f)
      × (s : Target) × IsSide f s × (forks_to forks k s u ≡ true)

  side_cases : (k : ℕ) (u : Target) (o : Option Fork) → either_side (λ side. forks_to forks k side u) o ≡ true
      → (f : Fork) × (o ≡ Some f) × (s : Target) × IsSide f s × (forks_to forks k s u ≡ true)
  side_cases k u None h = cc
  side_cases k u (Some f) h = elim (or_cases (forks_to forks k f.first u) (forks_to forks k f.second u) h) [
    | inl a ↦ (f, refl, f.first, inl refl, a)
    | inr b ↦ (f, refl, f.second, inr refl, b)
  ]

  side_from : (k : ℕ) (u s : Target) (f : Fork) → IsSide f s → forks_to forks k s u ≡ true
      → either_side (λ side. forks_to forks k side u) (Some f) ≡ true
  side_from k u s f (inl e) h = or_left (forks_to forks k f.first u) (forks_to forks k f.second u) (rw e h)
  side_from k u s f (inr e) h = or_right (forks_to forks k f.first u) (forks_to forks k f.second u) (rw e h)

  open_more : (k : ℕ) (t u : Target) → forks_to forks (suc k) t u ≡ true → (forks_to forks k t u ≡ true) ⊎ Through k t u
  open_more k t u h = elim (or_cases (forks_to forks k t u) _ h) [
    | inl a ↦ inl a
    | inr b ↦
        let p = and_parts (forks_to forks k t (target.Fork k))
        (either_side (λ side. forks_to forks k side u) (slice_get forks k)) b in
        let c = side_cases k u (slice_get forks k) p.1 in
        inr (p.0, c.0, c.1, c.2, c.3, c.4)
  ]

  close_old : (k : ℕ) (t u : Target) → forks_to forks k t u ≡ true → forks_to forks (suc k) t u ≡ true
  close_old k t u h = or_left (forks_to forks k t u) _ h

  close_through : (k : ℕ) (t u : Target) → Through k t u → forks_to forks (suc k) t u ≡ true
  close_through k t u (h, f, e, s, i, l) =
      or_right (forks_to forks k t u) _ (and_from (forks_to forks k t (target.Fork k))
      (either_side (λ side. forks_to forks k side u) (slice_get forks k)) h (rw e (side_from k u s f i l)))

  -- runs to a fork and from a side of it make one
  abbrev Joins : ℕ → Type 0
  Joins k = (j : ℕ) (t u s : Target) (f : Fork) → j < k → slice_get forks j ≡ Some f → IsSide f s
      → forks_to forks k t (target.Fork j) ≡ true → forks_to forks k s u ≡ true → forks_to forks k t u ≡ true

  join_more : (k : ℕ) → Joins k → Joins (suc k)
  join_more k join j t u s f less e i h l = elim (cases_eq j k) [
    | inl same ↦
        last (subst (λ x. slice_get forks x ≡ Some f) same e)
        (subst (λ x. forks_to forks (suc k) t (target.Fork x) ≡ true)
        same h)
    | inr other ↦ let below : j < k = omega arith in earlier below (open_more k t (target.Fork j) h) (open_more k s u l)
  ]
    where
      to_last : (forks_to forks k t (target.Fork k) ≡ true) ⊎ Through k t (target.Fork k)
          → forks_to forks k t (target.Fork k) ≡ true
      to_last (inl a) = a
      to_last (inr w) = w.0

      after_last : slice_get forks k ≡ Some f → forks_to forks k t (target.Fork k) ≡ true
          → (forks_to forks k s u ≡ true) ⊎ Through k s u → forks_to forks (suc k) t u ≡ true
      after_last at a (inl b) = close_through k t u (a, f, at, s, i, b)
      after_last at a (inr w) = close_through k t u (a, w.1, w.2, w.3, w.4, w.5)

      last : slice_get forks k ≡ Some f → forks_to forks (suc k) t (target.Fork k) ≡ true
          → forks_to forks (suc k) t u ≡ true
      last at a = after_last at (to_last (open_more k t (target.Fork k) a)) (open_more k s u l)

      earlier : j < k → (forks_to forks k t (target.Fork j) ≡ true) ⊎ Through k t (target.Fork j)
          → (forks_to forks k s u ≡ true) ⊎ Through k s u → forks_to forks (suc k) t u ≡ true
      earlier below (inl a) (inl b) = close_old k t u (join j t u s f below e i a b)
      earlier below (inl a) (inr w) = close_through k t u
          (join j t (target.Fork k) s f below e i a w.0, w.1, w.2, w.3, w.4, w.5)
      earlier below (inr w) (inl b) = close_through k t u
          (w.0, w.1, w.2, w.3, w.4, join j w.3 u s f below e i w.5 b)
      earlier below (inr w) (inr v) = close_through k t u (w.0, v.1, v.2, v.3, v.4, v.5)

  joins : (k : ℕ) → Joins k
  joins zero = λ j t u s f less e i h l. absurd (omega arith)
  joins (suc k) = join_more k (joins k)

  -- the test says just which runs there are
  pub forks_to-sound : (k : ℕ) (t u : Target) → forks_to forks k t u ≡ true → ForksTo forks t u
  forks_to-sound zero t u h = subst (ForksTo forks t) (same_is t u h) here
  forks_to-sound (suc k) t u h = elim (open_more k t u h) [
    | inl a ↦ forks_to-sound k t u a
    | inr w ↦
        forks_to-then forks t w.3 u (onward (forks_to-sound k t (target.Fork k) w.0) w.2 w.4)
        (forks_to-sound k w.3 u w.5)
  ]

  pub forks_to-complete : (t u : Target) → ForksTo forks t u → forks_to forks (length forks) t u ≡ true
  forks_to-complete t u here = forks_to-itself forks (length forks) t
  forks_to-complete t u (onward {k = k} {f = f} r e i) =
      joins (length forks) k t u u f (slice_get_within forks k f e) e i (forks_to-complete t (target.Fork k) r)
      (forks_to-itself forks (length forks) u)

-- what a test keeps of a list
filter_contains : (test : ℕ → Bool) (xs : List ℕ) (x : ℕ) → Contains xs x → test x ≡ true → Contains (filter test xs) x
filter_contains test [] x c h = Contains-none x c
filter_contains test (y ∷ ys) x c h = elim (Contains-cons_cases y ys x c) [
  | inl e ↦
      let passes : test y ≡ true = ap test e ∙ h in
      rw passes (subst (λ z. Contains (y ∷ filter test ys) z) e (Contains-first y (filter test ys)))
  | inr r ↦
      elim (cases_Bool (test y)) [
        | inl passes ↦ rw passes (Contains-later y (filter test ys) x (filter_contains test ys x r h))
        | inr fails ↦ rw fails (filter_contains test ys x r h)
      ]
]

range_below : (n : ℕ) → All (λ q. q < n) (range_with_len 0 n)
range_below n k d less =
    let count = length-range_with_len 0 n in
    let at = get_or-range_with_len 0 n k d (omega arith) in
    omega arith

range_contains : (n q : ℕ) → q < n → Contains (range_with_len 0 n) q
range_contains n q less =
    (q, omega (arith, length-range_with_len 0 n), get_or-range_with_len 0 n q q less ∙ omega arith)

range_once : (n : ℕ) → AllPairs (λ a b. a ≢ b) (range_with_len 0 n)
range_once n i j d less within same =
    let count = length-range_with_len 0 n in
    let a = get_or-range_with_len 0 n i d (omega arith) in
    let b = get_or-range_with_len 0 n j d (omega arith) in
    absurd (omega arith)

module _ (n : ℕ) (forks : List Fork) (next : Target) where
  abbrev test : ℕ → Bool
  test q = forks_to forks (length forks) next (target.Position q)

  pub reached_from-below : All (λ q. q < n) (reached_from n forks next)
  reached_from-below = All-filter test (λ q. q < n) (range_with_len 0 n) (range_below n)

  pub reached_from-once : AllPairs (λ a b. a ≢ b) (reached_from n forks next)
  reached_from-once = AllPairs-filter (λ a b. a ≢ b) test (range_with_len 0 n) (range_once n)

  pub reached_from-members : (q : ℕ) → Contains (reached_from n forks next) q
      ↔ ((q < n) × ForksTo forks next (target.Position q))
  reached_from-members q = (
    λ c. (
      All-contains (λ x. x < n) (reached_from n forks next) q reached_from-below c,
      forks_to-sound forks (length forks) next (target.Position q)
          (All-contains (λ x. test x ≡ true) (reached_from n forks next) q (filter_passes test (range_with_len 0 n)) c),
    ),
    λ (less, r). filter_contains test (range_with_len 0 n) q (range_contains n q less)
        (forks_to-complete forks next (target.Position q) r),
  )
