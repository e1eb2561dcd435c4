-- Where code stands: each of its steps is there, leads on, and stays as the program grows.
use Rattle.std.proofs.Common.{◌≡◌, ◌≢◌, inl, inr, ℕ, zero, suc, ◌+◌, ◌<◌, ◌≤◌, List, [], ◌∷◌, ◌++◌, length, refl, sym}
use Rattle.std.proofs.Common.{ap, subst, ◌∙◌, arith, Some, append_assoc, length-append}
use Rattle.std.specs.Prelude.{slice_get, Contains}
use Rattle.std.proofs.lemmas.Bool.{cases_eq, cases_lt}
use Rattle.ly_base.proofs.MemberLemmas.{Contains-first}
use Rattle.ly_base.proofs.ListLemmas.{slice_get-append, slice_get-behind}
use Rattle.ly_ere.specs.Expression.{Expression, set, empty, concat, either, star, plus, optional, repeat, name}
use Rattle.ly_position.specs.Private.Program.{ProgramStep, reads, fork, ends, Runs, at_end, by_read, by_first}
use Rattle.ly_position.specs.Private.Program.{by_second, size}
use Rattle.ly_position.specs.Private.Program.{entry}
use Rattle.ly_position.specs.Private.Program.{code, HasCode, IsPlainExpression}
use Rattle.ly_position.specs.Private.Reach.{LeadsBelow, LeadsFrom}
use Rattle.ly_position.proofs.CodeLaws.{CanRun, entry_below, entry_from, entry_last, entry_both, entry_plus, first_side}
use Rattle.ly_position.proofs.CodeLaws.{second_side}

some_member : (xs : List ℕ) → xs ≢ [] → (x : ℕ) × Contains xs x
some_member [] h = absurd (h refl)
some_member (x ∷ xs) h = (x, Contains-first x xs)

-- code stays as the program grows
pub HasCode-append : (g more : List ProgramStep) (e : Expression) (base next : ℕ) → HasCode g e base next
    → HasCode (g ++ more) e base next
HasCode-append g more (set bytes) base next h = slice_get-append g more base (reads bytes next) h
HasCode-append g more empty base next h = h
HasCode-append g more (concat r s) base next h
    = (HasCode-append g more s base next h.0, HasCode-append g more r (base + size s) (entry base (size s) next) h.1)
HasCode-append g more (either r s) base next h
    = (
      HasCode-append g more r base next h.0,
      HasCode-append g more s (base + size r) next h.1,
      slice_get-append g more (base + size r + size s)
          (fork (entry base (size r) next) (entry (base + size r) (size s) next))
          h.2,
    )
HasCode-append g more (star r) base next h
    = (
      HasCode-append g more r base (base + size r) h.0,
      slice_get-append g more (base + size r)
          (fork (entry base (size r) (base + size r)) next) h.1,
    )
HasCode-append g more (plus r) base next h
    = (
      slice_get-append g more base (fork (entry (base + 1) (size r) base) next) h.0,
      HasCode-append g more r (base + 1) base h.1,
    )
HasCode-append g more (optional r) base next h
    = (
      HasCode-append g more r base next h.0,
      slice_get-append g more (base + size r)
          (fork (entry base (size r) next) next) h.1,
    )
HasCode-append g more (repeat m n r) base next h = h
HasCode-append g more (name x) base next h = h

-- runs stay as the program grows
pub Runs-append : (g more : List ProgramStep) (i n p : ℕ) (w : List ℕ) → Runs g i n p w → Runs (g ++ more) i n p w
Runs-append g more i n p w (at_end k) = at_end (slice_get-append g more p (ends i) k)
Runs-append g more i n p w (by_read {n = m} {b = b} {q = q} {bytes = bytes} {w = v} k c r)
    = by_read (slice_get-append g more p (reads bytes q) k) c (Runs-append g more i m q v r)
Runs-append g more i n p w (by_first {n = m} {a = a} {b = b} k r)
    = by_first (slice_get-append g more p (fork a b) k) (Runs-append g more i m a w r)
Runs-append g more i n p w (by_second {n = m} {a = a} {b = b} k r)
    = by_second (slice_get-append g more p (fork a b) k) (Runs-append g more i m b w r)

pub length-code : (e : Expression) (base next : ℕ) → length (code e base next) ≡ size e
length-code (set bytes) base next = refl
length-code empty base next = refl
length-code (concat r s) base next
    = omega (
      arith,
      length-append (code s base next) (code r (base + size s) (entry base (size s) next)),
      length-code s base next,
      length-code r (base + size s) (entry base (size s) next),
    )
length-code (either r s) base next =
    let f : ProgramStep = fork (entry base (size r) next) (entry (base + size r) (size s) next) in
    omega (
      arith,
      length-append (code r base next) (code s (base + size r) next ++ f ∷ []),
      length-append (code s (base + size r) next) (f ∷ []),
      length-code r base next,
      length-code s (base + size r) next,
    )
length-code (star r) base next
    = omega (
      arith,
      length-append (code r base (base + size r)) (fork (entry base (size r) (base + size r)) next ∷ []),
      length-code r base (base + size r),
    )
length-code (plus r) base next = omega (arith, length-code r (base + 1) base)
length-code (optional r) base next
    = omega (
      arith,
      length-append (code r base next) (fork (entry base (size r) next) next ∷ []),
      length-code r base next,
    )
length-code (repeat m n r) base next = refl
length-code (name x) base next = refl

-- code that stands in a program
pub HasCode-of : (e : Expression) (pre post g : List ProgramStep) (base next : ℕ) → length pre ≡ base
    → g ≡ pre ++ (code e base next ++ post) → HasCode g e base next
HasCode-of (set bytes) pre post g base next l e = rw e (slice_get-behind pre post base (reads bytes next) l)
HasCode-of empty pre post g base next l e = tt
HasCode-of (concat r s) pre post g base next l e = (
  HasCode-of s pre (right ++ post) g base next l (e ∙ ap (λ z. pre ++ z) (append_assoc left right post)),
  HasCode-of r (pre ++ left) post g (base + size s) middle
      (omega (arith, length-append pre left, length-code s base next))
      (e ∙ (ap (λ z. pre ++ z) (append_assoc left right post) ∙ sym (append_assoc pre left (right ++ post)))),
)
  where
    middle : ℕ
    middle = entry base (size s) next

    left : List ProgramStep
    left = code s base next

    right : List ProgramStep
    right = code r (base + size s) (entry base (size s) next)
HasCode-of (either r s) pre post g base next l e = (
  HasCode-of r pre ((right ++ f ∷ []) ++ post) g base next l
      (e ∙ ap (λ z. pre ++ z) (append_assoc left (right ++ f ∷ []) post)),
  HasCode-of s (pre ++ left) (f ∷ post) g (base + size r) next
      (omega (arith, length-append pre left, length-code r base next)) split,
  rw (split ∙ sym (append_assoc (pre ++ left) right (f ∷ post)))
      (slice_get-behind ((pre ++ left) ++ right) post (base + size r + size s) f
      (omega (
        arith,
        length-append (pre ++ left) right,
        length-append pre left,
        length-code r base next,
        length-code s (base + size r) next,
      ))),
)
  where
    f : ProgramStep
    f = fork (entry base (size r) next) (entry (base + size r) (size s) next)

    left : List ProgramStep
    left = code r base next

    right : List ProgramStep
    right = code s (base + size r) next

    split : g ≡ (pre ++ left) ++ (right ++ (f ∷ post))
    split = e
        ∙ (ap (λ z. pre ++ z) (append_assoc left (right ++ f ∷ []) post
        ∙ ap (λ z. left ++ z) (append_assoc right (f ∷ []) post)) ∙ sym (append_assoc pre left (right ++ (f ∷ post))))
HasCode-of (star r) pre post g base next l e = (
  HasCode-of r pre (f ∷ post) g base (base + size r) l (e ∙ ap (λ z. pre ++ z) (append_assoc left (f ∷ []) post)),
  rw (e ∙ (ap (λ z. pre ++ z) (append_assoc left (f ∷ []) post) ∙ sym (append_assoc pre left (f ∷ post))))
      (slice_get-behind (pre ++ left) post (base + size r) f
      (omega (arith, length-append pre left, length-code r base (base + size r)))),
)
  where
    f : ProgramStep
    f = fork (entry base (size r) (base + size r)) next

    left : List ProgramStep
    left = code r base (base + size r)
HasCode-of (plus r) pre post g base next l e = (
  rw e (slice_get-behind pre (code r (base + 1) base ++ post) base f l),
  HasCode-of r (pre ++ f ∷ []) post g (base + 1) base (omega (arith, length-append pre (f ∷ [])))
      (e ∙ sym (append_assoc pre (f ∷ []) (code r (base + 1) base ++ post))),
)
  where
    f : ProgramStep
    f = fork (entry (base + 1) (size r) base) next
HasCode-of (optional r) pre post g base next l e = (
  HasCode-of r pre (f ∷ post) g base next l (e ∙ ap (λ z. pre ++ z) (append_assoc left (f ∷ []) post)),
  rw (e ∙ (ap (λ z. pre ++ z) (append_assoc left (f ∷ []) post) ∙ sym (append_assoc pre left (f ∷ post))))
      (slice_get-behind (pre ++ left) post (base + size r) f
      (omega (arith, length-append pre left, length-code r base next))),
)
  where
    f : ProgramStep
    f = fork (entry base (size r) next) next

    left : List ProgramStep
    left = code r base next
HasCode-of (repeat m n r) pre post g base next l e = tt
HasCode-of (name x) pre post g base next l e = tt

-- the step is no end
abbrev pub IsMove : ProgramStep → Type 0
IsMove (reads bytes q) = Unit {0}
IsMove (fork a b) = Unit {0}
IsMove (ends i) = ⊥

-- a step that is there, is no end and leads to steps below n and not before lo
abbrev pub Stands : List ProgramStep → ℕ → ℕ → ℕ → Type 0
Stands g lo n p = (s : ProgramStep) × (slice_get g p ≡ Some s) × LeadsBelow n s × LeadsFrom lo s × IsMove s

-- each step of code is there and leads to steps between these
pub stands : (g : List ProgramStep) (e : Expression) (base next lo n p : ℕ) → HasCode g e base next → lo ≤ base
    → lo ≤ next
    → base + size e ≤ n → next < n → base ≤ p → p < base + size e → Stands g lo n p
stands g (set bytes) base next lo n p h from on le less l m = let same : p ≡ base = omega arith
    in rw same (reads bytes next, h, less, on, tt)
stands g empty base next lo n p h from on le less l m = absurd (omega arith)
stands g (concat r s) base next lo n p h from on le less l m = elim (cases_lt p (base + size s)) [
  | inl a ↦ stands g s base next lo n p h.0 from on (omega arith) less l a
  | inr b ↦ stands g r (base + size s) (entry base (size s) next) lo n p h.1 (omega arith)
      (entry_from base (size s) next lo from on) (omega arith) (entry_below base (size s) next n (omega arith) less) b
      (omega arith)
]
stands g (either r s) base next lo n p h from on le less l m = elim (cases_lt p (base + size r)) [
  | inl a ↦ stands g r base next lo n p h.0 from on (omega arith) less l a
  | inr b ↦ elim (cases_lt p (base + size r + size s)) [
    | inl c ↦ stands g s (base + size r) next lo n p h.1 (omega arith) on (omega arith) less b c
    | inr d ↦ let same : p ≡ base + size r + size s = omega arith in
        rw same (
          fork (entry base (size r) next) (entry (base + size r) (size s) next),
          h.2,
          (
            entry_below base (size r) next n (omega arith) less,
            entry_below (base + size r) (size s) next n (omega arith) less,
          ),
          (entry_from base (size r) next lo from on, entry_from (base + size r) (size s) next lo (omega arith) on),
          tt,
        )
  ]
]
stands g (star r) base next lo n p h from on le less l m = elim (cases_lt p (base + size r)) [
  | inl a ↦ stands g r base (base + size r) lo n p h.0 from (omega arith) (omega arith) (omega arith) l a
  | inr b ↦ let same : p ≡ base + size r = omega arith in
      rw same (
        fork (entry base (size r) (base + size r)) next,
        h.1,
        (entry_below base (size r) (base + size r) n (omega arith) (omega arith), less),
        (entry_from base (size r) (base + size r) lo from (omega arith), on),
        tt,
      )
]
stands g (plus r) base next lo n p h from on le less l m = elim (cases_eq p base) [
  | inl same ↦
      rw same (
        fork (entry (base + 1) (size r) base) next,
        h.0,
        (entry_below (base + 1) (size r) base n (omega arith) (omega arith), less),
        (entry_from (base + 1) (size r) base lo (omega arith) from, on),
        tt,
      )
  | inr other ↦ stands g r (base + 1) base lo n p h.1 (omega arith) from (omega arith) (omega arith) (omega arith)
      (omega arith)
]
stands g (optional r) base next lo n p h from on le less l m = elim (cases_lt p (base + size r)) [
  | inl a ↦ stands g r base next lo n p h.0 from on (omega arith) less l a
  | inr b ↦ let same : p ≡ base + size r = omega arith in
      rw same (
        fork (entry base (size r) next) next,
        h.1,
        (entry_below base (size r) next n (omega arith) less, less),
        (entry_from base (size r) next lo from on, on),
        tt,
      )
]
stands g (repeat a b r) base next lo n p h from on le less l m = absurd (omega arith)
stands g (name x) base next lo n p h from on le less l m = absurd (omega arith)

module _ (g : List ProgramStep) (i : ℕ) where
  -- whatever runs from q, a string before it runs from p
  abbrev pub StepsTo : ℕ → ℕ → Type 0
  StepsTo p q = (u : List ℕ) × ((v : List ℕ) → CanRun g i q v → CanRun g i p (u ++ v))

  there : (p : ℕ) → StepsTo p p
  there p = ([], λ v r. r)

  then : (p q r : ℕ) → StepsTo p q → StepsTo q r → StepsTo p r
  then p q r a b
      = (a.0 ++ b.0, λ v k. subst (λ z. CanRun g i p z) (sym (append_assoc a.0 b.0 v)) (a.1 (b.0 ++ v) (b.1 v k)))

  by_fork_first : (p a b : ℕ) → slice_get g p ≡ Some (fork a b) → StepsTo p a
  by_fork_first p a b h = ([], λ v r. first_side g i p a b v h r)

  by_fork_second : (p a b : ℕ) → slice_get g p ≡ Some (fork a b) → StepsTo p b
  by_fork_second p a b h = ([], λ v r. second_side g i p a b v h r)

  pub from_entry : (base n next : ℕ) → ((p : ℕ) → base ≤ p → p < base + n → StepsTo p next)
      → StepsTo (entry base n next) next
  from_entry base zero next f = there next
  from_entry base (suc n) next f = f (base + n) (omega arith) (omega arith)

  -- each step of code leads to what comes after the code
  pub leads : (e : Expression) (base next p : ℕ) → IsPlainExpression e → HasCode g e base next → base ≤ p
      → p < base + size e
      → StepsTo p next
  leads (set bytes) base next p plain h l m =
      let same : p ≡ base = omega arith in
      let b : (x : ℕ) × Contains bytes x = some_member bytes plain in
      (b.0 ∷ [], λ v r. subst (λ q. CanRun g i q (b.0 ∷ v)) (sym same) (suc r.0, by_read h b.1 r.1))
  leads empty base next p plain h l m = absurd (omega arith)
  leads (concat r s) base next p plain h l m = elim (cases_lt p (base + size s)) [
    | inl a ↦ leads s base next p plain.1 h.0 l a
    | inr b ↦
        then p (entry base (size s) next) next (leads r (base + size s) (entry base (size s) next) p plain.0 h.1 b
        (omega arith)) (from_entry base (size s) next (λ q x y. leads s base next q plain.1 h.0 x y))
  ]
  leads (either r s) base next p plain h l m = elim (cases_lt p (base + size r)) [
    | inl a ↦ leads r base next p plain.0 h.0 l a
    | inr b ↦ elim (cases_lt p (base + size r + size s)) [
      | inl c ↦ leads s (base + size r) next p plain.1 h.1 b c
      | inr d ↦ let same : base + size r + size s ≡ p = omega arith in
          then p (entry base (size r) next) next
          (subst (λ q. StepsTo q (entry base (size r) next)) same
          (by_fork_first (base + size r + size s) (entry base (size r) next)
          (entry (base + size r) (size s) next) h.2))
          (from_entry base (size r) next (λ q x y. leads r base next q plain.0 h.0 x y))
    ]
  ]
  leads (star r) base next p plain h l m = elim (cases_lt p (base + size r)) [
    | inl a ↦ then p (base + size r) next (leads r base (base + size r) p plain h.0 l a)
        (by_fork_second (base + size r) (entry base (size r) (base + size r)) next h.1)
    | inr b ↦ let same : base + size r ≡ p = omega arith
        in subst (λ q. StepsTo q next) same
        (by_fork_second (base + size r) (entry base (size r) (base + size r)) next h.1)
  ]
  leads (plus r) base next p plain h l m = elim (cases_eq base p) [
    | inl same ↦ subst (λ q. StepsTo q next) same (by_fork_second base (entry (base + 1) (size r) base) next h.0)
    | inr other ↦ then p base next (leads r (base + 1) base p plain h.1 (omega arith) (omega arith))
        (by_fork_second base (entry (base + 1) (size r) base) next h.0)
  ]
  leads (optional r) base next p plain h l m = elim (cases_lt p (base + size r)) [
    | inl a ↦ leads r base next p plain h.0 l a
    | inr b ↦ let same : base + size r ≡ p = omega arith
        in subst (λ q. StepsTo q next) same (by_fork_second (base + size r) (entry base (size r) next) next h.1)
  ]
  leads (repeat a b r) base next p plain h l m = absurd plain
  leads (name x) base next p plain h l m = absurd plain

  -- and is reached from where the code begins
  pub reaches : (e : Expression) (base next p : ℕ) → IsPlainExpression e → HasCode g e base next → base ≤ p
      → p < base + size e → StepsTo (entry base (size e) next) p
  reaches (set bytes) base next p plain h l m = let same : p ≡ base + 0 = omega arith
      in subst (λ q. StepsTo q p) same (there p)
  reaches empty base next p plain h l m = absurd (omega arith)
  reaches (concat r s) base next p plain h l m =
      subst (λ q. StepsTo q p) (sym (entry_both base (size r) (size s) next)) (elim (cases_lt p (base + size s)) [
        | inl a ↦
            then (entry (base + size s) (size r) (entry base (size s) next)) (entry base (size s) next) p
            (from_entry (base + size s) (size r) (entry base (size s) next)
            (λ q x y. leads r (base + size s) (entry base (size s) next) q plain.0 h.1 x y))
            (reaches s base next p plain.1 h.0 l a)
        | inr b ↦ reaches r (base + size s) (entry base (size s) next) p plain.0 h.1 b (omega arith)
      ])
  reaches (either r s) base next p plain h l m =
      let f = base + size r + size s in
      subst (λ q. StepsTo q p) (sym (entry_last base (size r + size s) next ∙ omega arith))
      (elim (cases_lt p (base + size r)) [
        | inl a ↦
            then f (entry base (size r) next) p
            (by_fork_first f (entry base (size r) next) (entry (base + size r) (size s) next) h.2)
            (reaches r base next p plain.0 h.0 l a)
        | inr b ↦ elim (cases_lt p f) [
          | inl c ↦
              then f (entry (base + size r) (size s) next) p
              (by_fork_second f (entry base (size r) next) (entry (base + size r) (size s) next) h.2)
              (reaches s (base + size r) next p plain.1 h.1 b c)
          | inr d ↦ let same : p ≡ f = omega arith in subst (λ q. StepsTo q p) same (there p)
        ]
      ])
  reaches (star r) base next p plain h l m =
      let f = base + size r in
      subst (λ q. StepsTo q p) (sym (entry_last base (size r) next)) (elim (cases_lt p f) [
        | inl a ↦
            then f (entry base (size r) f) p (by_fork_first f (entry base (size r) f) next h.1)
            (reaches r base f p plain h.0 l a)
        | inr b ↦ let same : p ≡ f = omega arith in subst (λ q. StepsTo q p) same (there p)
      ])
  reaches (plus r) base next p plain h l m =
      subst (λ q. StepsTo q p) (entry_plus base (size r) ∙ sym (entry_last base (size r) next))
      (elim (cases_eq base p) [
        | inl same ↦ subst (λ q. StepsTo (entry (base + 1) (size r) base) q) same
            (from_entry (base + 1) (size r) base (λ q x y. leads r (base + 1) base q plain h.1 x y))
        | inr other ↦ reaches r (base + 1) base p plain h.1 (omega arith) (omega arith)
      ])
  reaches (optional r) base next p plain h l m =
      let f = base + size r in
      subst (λ q. StepsTo q p) (sym (entry_last base (size r) next)) (elim (cases_lt p f) [
        | inl a ↦
            then f (entry base (size r) next) p (by_fork_first f (entry base (size r) next) next h.1)
            (reaches r base next p plain h.0 l a)
        | inr b ↦ let same : p ≡ f = omega arith in subst (λ q. StepsTo q p) same (there p)
      ])
  reaches (repeat a b r) base next p plain h l m = absurd plain
  reaches (name x) base next p plain h l m = absurd plain
