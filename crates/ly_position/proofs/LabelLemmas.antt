-- The numbers that code of a numbered expression reads, and the same code with bytes for numbers.
use Rattle.std.proofs.Common.{◌≡◌, inl, inr, ℕ, ◌+◌, ◌<◌, ◌≤◌, List, [], ◌∷◌, Some, refl, subst, ◌∙◌, arith}
use Rattle.std.specs.Prelude.{slice_get}
use Rattle.std.proofs.lemmas.Bool.{cases_eq, cases_lt}
use Rattle.ly_ere.specs.Expression.{Expression, set, empty, concat, either, star, plus, optional, repeat, name}
use Rattle.ly_position.specs.Private.Program.{ProgramStep, reads, fork, ends, size, entry, HasCode}
use Rattle.ly_position.proofs.SlimNumbers.{IsLinear, fill, fill_set}

-- the number at a place of code
pub record Label (lo hi : ℕ) (bytes : List ℕ) : Type 0 where
  pub number : ℕ
  pub is : bytes ≡ number ∷ []
  pub low : lo ≤ number
  pub high : number < hi

label_wider : (lo hi low high : ℕ) (bytes : List ℕ) → low ≤ lo → hi ≤ high → Label lo hi bytes → Label low high bytes
label_wider lo hi low high bytes a b l
    = record { number = l.number; is = l.is; low = omega (arith, l.low); high = omega (arith, l.high) }

module _ (g : List ProgramStep) where
  -- what is read in code of an expression of numbers is one of its numbers
  pub label : (e : Expression) (base next lo hi p q : ℕ) (bytes : List ℕ) → HasCode g e base next → IsLinear e lo hi
      → base ≤ p → p < base + size e → slice_get g p ≡ Some (reads bytes q) → Label lo hi bytes
  label (set numbers) base next lo hi p q bytes h k l m at =
      let same : p ≡ base = omega arith in
      let here : slice_get g base ≡ Some (reads bytes q) = subst (λ x. slice_get g x ≡ Some (reads bytes q)) same at in
      let one : bytes ≡ numbers = let a = h in cc in
      record { number = k.0; is = one ∙ k.1; low = k.2; high = k.3 }
  label empty base next lo hi p q bytes h k l m at = absurd (omega arith)
  label (concat r s) base next lo hi p q bytes h k l m at = elim (cases_lt p (base + size s)) [
    | inl a ↦ label_wider k.0 hi lo hi bytes k.1 (omega arith) (label s base next k.0 hi p q bytes h.0 k.4 l a at)
    | inr b ↦ label_wider lo k.0 lo hi bytes (omega arith) k.2
        (label r (base + size s) (entry base (size s) next) lo k.0 p q bytes h.1 k.3 b (omega arith) at)
  ]
  label (either r s) base next lo hi p q bytes h k l m at = elim (cases_lt p (base + size r)) [
    | inl a ↦ label_wider lo k.0 lo hi bytes (omega arith) k.2 (label r base next lo k.0 p q bytes h.0 k.3 l a at)
    | inr b ↦ elim (cases_lt p (base + size r + size s)) [
      | inl c ↦ label_wider k.0 hi lo hi bytes k.1 (omega arith)
          (label s (base + size r) next k.0 hi p q bytes h.1 k.4 b c at)
      | inr d ↦
          let same : base + size r + size s ≡ p = omega arith in
          let f = subst (λ x. slice_get g x ≡ Some (fork (entry base (size r) next)
          (entry (base + size r) (size s) next))) same h.2 in absurd cc
    ]
  ]
  label (star r) base next lo hi p q bytes h k l m at = elim (cases_lt p (base + size r)) [
    | inl a ↦ label r base (base + size r) lo hi p q bytes h.0 k l a at
    | inr b ↦
        let same : base + size r ≡ p = omega arith in
        let f = subst (λ x. slice_get g x ≡ Some (fork (entry base (size r) (base + size r)) next)) same h.1
        in absurd cc
  ]
  label (plus r) base next lo hi p q bytes h k l m at = elim (cases_eq base p) [
    | inl same ↦
        let f = subst (λ x. slice_get g x ≡ Some (fork (entry (base + 1) (size r) base) next)) same h.0 in absurd cc
    | inr other ↦ label r (base + 1) base lo hi p q bytes h.1 k (omega arith) (omega arith) at
  ]
  label (optional r) base next lo hi p q bytes h k l m at = elim (cases_lt p (base + size r)) [
    | inl a ↦ label r base next lo hi p q bytes h.0 k l a at
    | inr b ↦
        let same : base + size r ≡ p = omega arith in
        let f = subst (λ x. slice_get g x ≡ Some (fork (entry base (size r) next) next)) same h.1 in absurd cc
  ]
  label (repeat a b r) base next lo hi p q bytes h k l m at = absurd k
  label (name x) base next lo hi p q bytes h k l m at = absurd k

  -- no number lies in two ranges
  apart : (lo m hi k : ℕ) → Label lo m (k ∷ []) → Label m hi (k ∷ []) → ⊥
  apart lo m hi k a b =
      let x : k ≡ a.number = let e = a.is in cc in
      let y : k ≡ b.number = let e = b.is in cc in
      omega (arith, a.high, b.low)

  no_fork : {A : Type 0} (p x y q : ℕ) (bytes : List ℕ) → slice_get g p ≡ Some (fork x y)
      → slice_get g p ≡ Some (reads bytes q) → A
  no_fork p x y q bytes e f = cc

  -- no number is read at two places
  pub label_once : (e : Expression) (base next lo hi k p q x y : ℕ) → HasCode g e base next → IsLinear e lo hi
      → base ≤ p → p < base + size e → base ≤ q → q < base + size e → slice_get g p ≡ Some (reads (k ∷ []) x)
      → slice_get g q ≡ Some (reads (k ∷ []) y) → p ≡ q
  label_once (set numbers) base next lo hi k p q x y h z l m l' m' at at' = omega arith
  label_once empty base next lo hi k p q x y h z l m l' m' at at' = absurd (omega arith)
  label_once (concat r s) base next lo hi k p q x y h z l m l' m' at at' =
      let on = entry base (size s) next in
      elim (cases_lt p (base + size s)) [
        | inl a ↦ elim (cases_lt q (base + size s)) [
          | inl a' ↦ label_once s base next z.0 hi k p q x y h.0 z.4 l a l' a' at at'
          | inr b' ↦ absurd (apart lo z.0 hi k
              (label r (base + size s) on lo z.0 q y (k ∷ []) h.1 z.3 b' (omega arith) at')
              (label s base next z.0 hi p x (k ∷ []) h.0 z.4 l a at))
        ]
        | inr b ↦ elim (cases_lt q (base + size s)) [
          | inl a' ↦ absurd (apart lo z.0 hi k
              (label r (base + size s) on lo z.0 p x (k ∷ []) h.1 z.3 b (omega arith) at)
              (label s base next z.0 hi q y (k ∷ []) h.0 z.4 l' a' at'))
          | inr b' ↦ label_once r (base + size s) on lo z.0 k p q x y h.1 z.3 b (omega arith) b' (omega arith) at at'
        ]
      ]
  label_once (either r s) base next lo hi k p q x y h z l m l' m' at at' =
      let f = base + size r + size s in
      let last : (v : ℕ) (w : ℕ) → f ≤ v → v < f + 1 → slice_get g v ≡ Some (reads (k ∷ []) w) → ⊥
      = λ v w u t e. let same : f ≡ v = omega arith in no_fork v (entry base (size r) next)
      (entry (base + size r) (size s) next) w (k ∷ []) (subst (λ i. slice_get g i
      ≡ Some (fork (entry base (size r) next) (entry (base + size r) (size s) next))) same h.2) e in
      elim (cases_lt p (base + size r)) [
        | inl a ↦ elim (cases_lt q (base + size r)) [
          | inl a' ↦ label_once r base next lo z.0 k p q x y h.0 z.3 l a l' a' at at'
          | inr b' ↦ elim (cases_lt q f) [
            | inl c' ↦ absurd (apart lo z.0 hi k (label r base next lo z.0 p x (k ∷ []) h.0 z.3 l a at)
                (label s (base + size r) next z.0 hi q y (k ∷ []) h.1 z.4 b' c' at'))
            | inr d' ↦ absurd (last q y d' (omega arith) at')
          ]
        ]
        | inr b ↦ elim (cases_lt p f) [
          | inl c ↦ elim (cases_lt q (base + size r)) [
            | inl a' ↦ absurd (apart lo z.0 hi k (label r base next lo z.0 q y (k ∷ []) h.0 z.3 l' a' at')
                (label s (base + size r) next z.0 hi p x (k ∷ []) h.1 z.4 b c at))
            | inr b' ↦ elim (cases_lt q f) [
              | inl c' ↦ label_once s (base + size r) next z.0 hi k p q x y h.1 z.4 b c b' c' at at'
              | inr d' ↦ absurd (last q y d' (omega arith) at')
            ]
          ]
          | inr d ↦ absurd (last p x d (omega arith) at)
        ]
      ]
  label_once (star r) base next lo hi k p q x y h z l m l' m' at at' =
      let f = base + size r in
      let last : (v : ℕ) (w : ℕ) → f ≤ v → v < f + 1 → slice_get g v ≡ Some (reads (k ∷ []) w) → ⊥
      = λ v w u t e. let same : f ≡ v = omega arith in no_fork v (entry base (size r) f) next w (k ∷ [])
      (subst (λ i. slice_get g i ≡ Some (fork (entry base (size r) f) next)) same h.1) e in
      elim (cases_lt p f) [
        | inl a ↦ elim (cases_lt q f) [
          | inl a' ↦ label_once r base f lo hi k p q x y h.0 z l a l' a' at at'
          | inr b' ↦ absurd (last q y b' (omega arith) at')
        ]
        | inr b ↦ absurd (last p x b (omega arith) at)
      ]
  label_once (plus r) base next lo hi k p q x y h z l m l' m' at at' = elim (cases_eq base p) [
    | inl same ↦ no_fork p (entry (base + 1) (size r) base) next x (k ∷ [])
        (subst (λ i. slice_get g i ≡ Some (fork (entry (base + 1) (size r) base) next)) same h.0) at
    | inr other ↦ elim (cases_eq base q) [
      | inl same ↦ no_fork q (entry (base + 1) (size r) base) next y (k ∷ [])
          (subst (λ i. slice_get g i ≡ Some (fork (entry (base + 1) (size r) base) next)) same h.0) at'
      | inr one ↦ label_once r (base + 1) base lo hi k p q x y h.1 z (omega arith) (omega arith) (omega arith)
          (omega arith) at at'
    ]
  ]
  label_once (optional r) base next lo hi k p q x y h z l m l' m' at at' =
      let f = base + size r in
      let last : (v : ℕ) (w : ℕ) → f ≤ v → v < f + 1 → slice_get g v ≡ Some (reads (k ∷ []) w) → ⊥
      = λ v w u t e. let same : f ≡ v = omega arith in no_fork v (entry base (size r) next) next w (k ∷ [])
      (subst (λ i. slice_get g i ≡ Some (fork (entry base (size r) next) next)) same h.1) e in
      elim (cases_lt p f) [
        | inl a ↦ elim (cases_lt q f) [
          | inl a' ↦ label_once r base next lo hi k p q x y h.0 z l a l' a' at at'
          | inr b' ↦ absurd (last q y b' (omega arith) at')
        ]
        | inr b ↦ absurd (last p x b (omega arith) at)
      ]
  label_once (repeat a b r) base next lo hi k p q x y h z l m l' m' at at' = absurd z
  label_once (name n) base next lo hi k p q x y h z l m l' m' at at' = absurd z

-- a step with bytes for numbers
abbrev pub fill_step : (ℕ → List ℕ) → ProgramStep → ProgramStep
fill_step S (reads numbers q) = reads (fill_set S numbers) q
fill_step S (fork a b) = fork a b
fill_step S (ends i) = ends i

pub size-fill : (S : ℕ → List ℕ) (e : Expression) → size (fill S e) ≡ size e
size-fill S (set numbers) = refl
size-fill S empty = refl
size-fill S (concat r s) = omega (arith, size-fill S r, size-fill S s)
size-fill S (either r s) = omega (arith, size-fill S r, size-fill S s)
size-fill S (star r) = omega (arith, size-fill S r)
size-fill S (plus r) = omega (arith, size-fill S r)
size-fill S (optional r) = omega (arith, size-fill S r)
size-fill S (repeat m n r) = refl
size-fill S (name x) = refl

-- two programs have the same step, one with numbers and one with bytes
pub record Twin (S : ℕ → List ℕ) (g g' : List ProgramStep) (p : ℕ) : Type 0 where
  pub step : ProgramStep
  pub numbers : slice_get g p ≡ Some step
  pub bytes : slice_get g' p ≡ Some (fill_step S step)

module _ (S : ℕ → List ℕ) (g g' : List ProgramStep) where
  pub twin : (e : Expression) (base next p : ℕ) → HasCode g e base next → HasCode g' (fill S e) base next → base ≤ p
      → p < base + size e → Twin S g g' p
  twin (set numbers) base next p h k l m =
      let same : base ≡ p = omega arith in
      subst (Twin S g g') same (record { step = reads numbers next; numbers = h; bytes = k })
  twin empty base next p h k l m = absurd (omega arith)
  twin (concat r s) base next p h k l m = elim (cases_lt p (base + size s)) [
    | inl a ↦ twin s base next p h.0 k.0 l a
    | inr b ↦
        twin r (base + size s) (entry base (size s) next) p h.1
        (subst (λ n. HasCode g' (fill S r) (base + n) (entry base n next)) (size-fill S s) k.1) b (omega arith)
  ]
  twin (either r s) base next p h k l m = elim (cases_lt p (base + size r)) [
    | inl a ↦ twin r base next p h.0 k.0 l a
    | inr b ↦ elim (cases_lt p (base + size r + size s)) [
      | inl c ↦ twin s (base + size r) next p h.1
          (subst (λ n. HasCode g' (fill S s) (base + n) next) (size-fill S r) k.1) b c
      | inr d ↦
          let same : base + size r + size s ≡ p = omega arith in
          subst (Twin S g g') same (record {
            step = fork (entry base (size r) next) (entry (base + size r) (size s) next);
            numbers = h.2;
            bytes = subst (λ n. slice_get g' (base + size r + n)
                ≡ Some (fork (entry base (size r) next) (entry (base + size r) n next))) (size-fill S s)
                (subst (λ n. slice_get g' (base + n + size (fill S s))
                ≡ Some (fork (entry base n next) (entry (base + n) (size (fill S s)) next))) (size-fill S r) k.2);
          })
    ]
  ]
  twin (star r) base next p h k l m = elim (cases_lt p (base + size r)) [
    | inl a ↦ twin r base (base + size r) p h.0
        (subst (λ n. HasCode g' (fill S r) base (base + n)) (size-fill S r) k.0) l a
    | inr b ↦
        let same : base + size r ≡ p = omega arith in
        subst (Twin S g g') same (record {
          step = fork (entry base (size r) (base + size r)) next;
          numbers = h.1;
          bytes = subst (λ n. slice_get g' (base + n) ≡ Some (fork (entry base n (base + n)) next)) (size-fill S r)
              k.1;
        })
  ]
  twin (plus r) base next p h k l m = elim (cases_eq base p) [
    | inl same ↦ subst (Twin S g g') same (record {
      step = fork (entry (base + 1) (size r) base) next;
      numbers = h.0;
      bytes = subst (λ n. slice_get g' base ≡ Some (fork (entry (base + 1) n base) next)) (size-fill S r) k.0;
    })
    | inr other ↦ twin r (base + 1) base p h.1 k.1 (omega arith) (omega arith)
  ]
  twin (optional r) base next p h k l m = elim (cases_lt p (base + size r)) [
    | inl a ↦ twin r base next p h.0 k.0 l a
    | inr b ↦
        let same : base + size r ≡ p = omega arith in
        subst (Twin S g g') same (record {
          step = fork (entry base (size r) next) next;
          numbers = h.1;
          bytes = subst (λ n. slice_get g' (base + n) ≡ Some (fork (entry base n next) next)) (size-fill S r) k.1;
        })
  ]
  twin (repeat a b r) base next p h k l m = absurd (omega arith)
  twin (name x) base next p h k l m = absurd (omega arith)
