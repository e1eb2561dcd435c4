-- Strings of numbers: those of one expression, and the strings that are read along them.
use Rattle.std.proofs.Common.{◌≡◌, inl, inr, ℕ, zero, suc, ◌+◌, ◌<◌, ◌≤◌, List, [], ◌∷◌, ◌++◌, length}
use Rattle.std.proofs.Common.{get_or, refl, sym, ◌∙◌, ap, subst, arith, length-append, append_assoc, append-nil}
use Rattle.std.specs.Prelude.{Contains}
use Rattle.std.specs.List.{AllZip}
use Rattle.std.proofs.lemmas.List.{get_or_at}
use Rattle.ly_base.proofs.MemberLemmas.{Contains-first, Contains-none, Contains-one}
use Rattle.ly_ere.specs.Expression.{Concatenated}
use Rattle.ly_position.specs.Written.{Plain, one_of, empty_string, in_turn, or, any_times, some_times, maybe, Member}
use Rattle.ly_position.specs.Numbered.{sets, set_at, set_count, numbered, Path}
use Rattle.ly_position.proofs.SplitLemmas.{split, no_end, alone, in_one_of, change_in}
use Rattle.ly_position.proofs.SplitLemmas.{zip_both, zip_parts}

pub length-sets : (r : Plain) → length (sets r) ≡ set_count r
length-sets (one_of bytes) = refl
length-sets empty_string = refl
length-sets (in_turn r s) = omega (arith, length-append (sets r) (sets s), length-sets r, length-sets s)
length-sets (or r s) = omega (arith, length-append (sets r) (sets s), length-sets r, length-sets s)
length-sets (any_times r) = length-sets r
length-sets (some_times r) = length-sets r
length-sets (maybe r) = length-sets r

-- the number of a member of such a string is one of those of its sets
pub in_range : (r : Plain) (base k : ℕ) (xs ys : List ℕ) → Member (numbered r base) (xs ++ k ∷ ys)
    → (base ≤ k) × (k < base + set_count r)
in_range (one_of []) base k xs ys h = Contains-none h.0 h.1
in_range (one_of (b ∷ bytes)) base k xs ys h =
    let e = (alone xs ys k h.0 h.2).1 in
    let f = Contains-one base h.0 h.1 in
    (omega arith, omega arith)
in_range empty_string base k xs ys h = absurd (no_end xs ys k h)
in_range (in_turn r s) base k xs ys h = elim (split h.0 h.1 xs ys k h.2) [
  | inl i ↦ let a = in_range r base k xs i.more (subst (Member (numbered r base)) i.first h.3)
      in (a.0, omega (arith, a.1))
  | inr i ↦ let a = in_range s (base + set_count r) k i.less ys
      (subst (Member (numbered s (base + set_count r))) i.second h.4) in (omega (arith, a.0), omega (arith, a.1))
]
in_range (or r s) base k xs ys (inl h) = let a = in_range r base k xs ys h in (a.0, omega (arith, a.1))
in_range (or r s) base k xs ys (inr h) = let a = in_range s (base + set_count r) k xs ys h
    in (omega (arith, a.0), omega (arith, a.1))
in_range (any_times r) base k xs ys h = let o = in_one_of (Member (numbered r base)) h.0 xs ys k h.1
    in in_range r base k o.left o.right o.in_one
in_range (some_times r) base k xs ys h = let o = in_one_of (Member (numbered r base)) h.0 xs ys k h.2
    in in_range r base k o.left o.right o.in_one
in_range (maybe r) base k xs ys (inl h) = absurd (no_end xs ys k h)
in_range (maybe r) base k xs ys (inr h) = in_range r base k xs ys h

-- no number stands on both sides
apart : (r s : Plain) (base k : ℕ) (xs ys us vs : List ℕ) → Member (numbered r base) (xs ++ k ∷ ys)
    → Member (numbered s (base + set_count r)) (us ++ k ∷ vs) → ⊥
apart r s base k xs ys us vs h g =
    let i = in_range r base k xs ys h in
    let j = in_range s (base + set_count r) k us vs g in
    omega (arith, i.1, j.0)

-- two strings that go through one number may change over there
pub change_over : (r : Plain) (base k : ℕ) (xs ys us vs : List ℕ) → Member (numbered r base) (xs ++ k ∷ ys)
    → Member (numbered r base) (us ++ k ∷ vs) → Member (numbered r base) (xs ++ k ∷ vs)
change_over (one_of []) base k xs ys us vs h g = Contains-none h.0 h.1
change_over (one_of (b ∷ bytes)) base k xs ys us vs h g =
    let s = alone xs ys k h.0 h.2 in
    let t = alone us vs k g.0 g.2 in
    (h.0, h.1, ap (λ z. z ++ k ∷ vs) s.0 ∙ (ap (λ z. k ∷ z) t.2 ∙ ap (λ z. z ∷ []) s.1))
change_over empty_string base k xs ys us vs h g = absurd (no_end xs ys k h)
change_over (in_turn r s) base k xs ys us vs h g =
    elim (split h.0 h.1 xs ys k h.2) [
      | inl i ↦ elim (split g.0 g.1 us vs k g.2) [
        | inl j ↦ (
          xs ++ k ∷ j.more,
          g.1,
          ap (λ z. xs ++ k ∷ z) j.rest ∙ sym (append_assoc xs (k ∷ j.more) g.1),
          change_over r base k xs i.more us j.more (subst (Member (numbered r base)) i.first h.3)
              (subst (Member (numbered r base)) j.first g.3),
          g.4,
        )
        | inr j ↦ absurd (apart r s base k xs i.more j.less vs (subst (Member (numbered r base)) i.first h.3)
            (subst (Member (numbered s (base + set_count r))) j.second g.4))
      ]
      | inr i ↦ elim (split g.0 g.1 us vs k g.2) [
        | inl j ↦ absurd (apart r s base k us j.more i.less ys (subst (Member (numbered r base)) j.first g.3)
            (subst (Member (numbered s (base + set_count r))) i.second h.4))
        | inr j ↦ (
          h.0,
          i.less ++ k ∷ vs,
          ap (λ z. z ++ k ∷ vs) i.front ∙ append_assoc h.0 i.less (k ∷ vs),
          h.3,
          change_over s (base + set_count r) k i.less ys j.less vs
              (subst (Member (numbered s (base + set_count r))) i.second h.4)
              (subst (Member (numbered s (base + set_count r))) j.second g.4),
        )
      ]
    ]
change_over (or r s) base k xs ys us vs (inl h) (inl g) = inl (change_over r base k xs ys us vs h g)
change_over (or r s) base k xs ys us vs (inl h) (inr g) = absurd (apart r s base k xs ys us vs h g)
change_over (or r s) base k xs ys us vs (inr h) (inl g) = absurd (apart r s base k us vs xs ys g h)
change_over (or r s) base k xs ys us vs (inr h) (inr g) = inr (change_over s (base + set_count r) k xs ys us vs h g)
change_over (any_times r) base k xs ys us vs h g =
    let p = change_in (Member (numbered r base)) k (λ x y u v m n. change_over r base k x y u v m n) h.0 g.0 xs ys us vs
    h.1 g.1 in
    (p.0, p.2)
change_over (some_times r) base k xs ys us vs h g
    = change_in (Member (numbered r base)) k (λ x y u v m n. change_over r base k x y u v m n) h.0 g.0 xs ys us vs
    h.2 g.2
change_over (maybe r) base k xs ys us vs (inl h) g = absurd (no_end xs ys k h)
change_over (maybe r) base k xs ys us vs (inr h) (inl g) = absurd (no_end us vs k g)
change_over (maybe r) base k xs ys us vs (inr h) (inr g) = inr (change_over r base k xs ys us vs h g)

-- S says the bytes of each number, counted from base
abbrev pub Agrees : (ℕ → List ℕ) → Plain → ℕ → Type 0
Agrees S (one_of bytes) base = S base ≡ bytes
Agrees S empty_string base = Unit {0}
Agrees S (in_turn r s) base = Agrees S r base × Agrees S s (base + set_count r)
Agrees S (or r s) base = Agrees S r base × Agrees S s (base + set_count r)
Agrees S (any_times r) base = Agrees S r base
Agrees S (some_times r) base = Agrees S r base
Agrees S (maybe r) base = Agrees S r base

first_sets : (r s : Plain) (pre post : List (List ℕ)) (k : ℕ) → get_or (pre ++ ((sets r ++ sets s) ++ post)) k []
    ≡ get_or (pre ++ (sets r ++ (sets s ++ post))) k []
first_sets r s pre post k = ap (λ z. get_or (pre ++ z) k []) (append_assoc (sets r) (sets s) post)

second_sets : (r s : Plain) (pre post : List (List ℕ)) (k : ℕ) → get_or (pre ++ ((sets r ++ sets s) ++ post)) k []
    ≡ get_or ((pre ++ sets r) ++ (sets s ++ post)) k []
second_sets r s pre post k
    = first_sets r s pre post k ∙ ap (λ z. get_or z k []) (sym (append_assoc pre (sets r) (sets s ++ post)))

agrees_within : (r : Plain) (S : ℕ → List ℕ) (pre post : List (List ℕ)) (base : ℕ) → length pre ≡ base
    → ((k : ℕ) → S k ≡ get_or (pre ++ (sets r ++ post)) k []) → Agrees S r base
agrees_within (one_of bytes) S pre post base e f = f base ∙ get_or_at pre bytes post [] base e
agrees_within empty_string S pre post base e f = tt
agrees_within (in_turn r s) S pre post base e f = (
  agrees_within r S pre (sets s ++ post) base e (λ k. f k ∙ first_sets r s pre post k),
  agrees_within s S (pre ++ sets r) post (base + set_count r)
      (omega (arith, length-append pre (sets r), length-sets r)) (λ k. f k ∙ second_sets r s pre post k),
)
agrees_within (or r s) S pre post base e f = (
  agrees_within r S pre (sets s ++ post) base e (λ k. f k ∙ first_sets r s pre post k),
  agrees_within s S (pre ++ sets r) post (base + set_count r)
      (omega (arith, length-append pre (sets r), length-sets r)) (λ k. f k ∙ second_sets r s pre post k),
)
agrees_within (any_times r) S pre post base e f = agrees_within r S pre post base e f
agrees_within (some_times r) S pre post base e f = agrees_within r S pre post base e f
agrees_within (maybe r) S pre post base e f = agrees_within r S pre post base e f

pub agrees : (r : Plain) → Agrees (set_at r) r 0
agrees r = agrees_within r (set_at r) [] [] 0 refl (λ k. ap (λ z. get_or z k []) (sym (append-nil (sets r))))

module _ (S : ℕ → List ℕ) where
  abbrev Along : List ℕ → List ℕ → Type 0
  Along ks w = AllZip (λ k b. Contains (S k) b) ks w

  abbrev Numbering : Plain → ℕ → List ℕ → Type 0
  Numbering r base w = (ks : List ℕ) × Member (numbered r base) ks × Along ks w

  joined_numbering : (r : Plain) (base : ℕ) → ((w : List ℕ) → Member r w → Numbering r base w) → (k : ℕ) (w : List ℕ)
      → Concatenated (Member r) k w → (ks : List ℕ) × Concatenated (Member (numbered r base)) k ks × Along ks w
  joined_numbering r base f zero w j = ([], refl, subst (λ z. Along [] z) (sym j) tt)
  joined_numbering r base f (suc k) w j =
      let a = f j.0 j.3 in
      let b : (ks : List ℕ) × Concatenated (Member (numbered r base)) k ks × Along ks j.1
      = joined_numbering r base f k j.1 j.4 in (
        a.0 ++ b.0,
        (a.0, b.0, refl, a.1, b.1),
        subst (λ z. Along (a.0 ++ b.0) z) (sym j.2) (zip_both (λ k b. Contains (S k) b) a.0 b.0 j.0 j.1 a.2 b.2),
      )

  -- each string is read along some numbers
  pub numbering : (r : Plain) (base : ℕ) (w : List ℕ) → Agrees S r base → Member r w → Numbering r base w
  numbering (one_of []) base w g h = Contains-none h.0 h.1
  numbering (one_of (b ∷ bytes)) base w g h = (
    base ∷ [],
    (base, Contains-first base [], refl),
    subst (λ z. Along (base ∷ []) z) (sym h.2) (subst (λ l. Contains l h.0) (sym g) h.1, tt),
  )
  numbering empty_string base w g h = ([], refl, subst (λ z. Along [] z) (sym h) tt)
  numbering (in_turn r s) base w g h =
      let a = numbering r base h.0 g.0 h.3 in
      let b = numbering s (base + set_count r) h.1 g.1 h.4 in (
        a.0 ++ b.0,
        (a.0, b.0, refl, a.1, b.1),
        subst (λ z. Along (a.0 ++ b.0) z) (sym h.2) (zip_both (λ k b. Contains (S k) b) a.0 b.0 h.0 h.1 a.2 b.2),
      )
  numbering (or r s) base w g (inl h) = let a = numbering r base w g.0 h in (a.0, inl a.1, a.2)
  numbering (or r s) base w g (inr h) = let a = numbering s (base + set_count r) w g.1 h in (a.0, inr a.1, a.2)
  numbering (any_times r) base w g h = let a = joined_numbering r base (λ v k. numbering r base v g k) h.0 w h.1
      in (a.0, (h.0, a.1), a.2)
  numbering (some_times r) base w g h = let a = joined_numbering r base (λ v k. numbering r base v g k) h.0 w h.2
      in (a.0, (h.0, h.1, a.1), a.2)
  numbering (maybe r) base w g (inl h) = ([], inl refl, subst (λ z. Along [] z) (sym h) tt)
  numbering (maybe r) base w g (inr h) = let a = numbering r base w g h in (a.0, inr a.1, a.2)

  nothing_along : (ks w : List ℕ) → ks ≡ [] → Along ks w → w ≡ []
  nothing_along [] [] e h = refl
  nothing_along [] (b ∷ w) e h = absurd h
  nothing_along (k ∷ ks) w e h = cc

  joined_unnumbered : (r : Plain) (base : ℕ)
      → ((ks w : List ℕ) → Member (numbered r base) ks → Along ks w → Member r w) → (k : ℕ) (ks w : List ℕ)
      → Concatenated (Member (numbered r base)) k ks → Along ks w → Concatenated (Member r) k w
  joined_unnumbered r base f zero ks w j z = nothing_along ks w j z
  joined_unnumbered r base f (suc k) ks w j z =
      let p = zip_parts (λ k b. Contains (S k) b) j.0 j.1 w (subst (λ x. Along x w) j.2 z) in
      (p.0, p.1, p.2, f j.0 p.0 j.3 p.3, joined_unnumbered r base f k j.1 p.1 j.4 p.4)

  -- and what is read along such numbers is a string
  pub unnumbered : (r : Plain) (base : ℕ) (ks w : List ℕ) → Agrees S r base → Member (numbered r base) ks → Along ks w
      → Member r w
  unnumbered (one_of []) base ks w g h z = Contains-none h.0 h.1
  unnumbered (one_of (b ∷ bytes)) base ks w g h z = one w
      (subst (λ x. Along x w) (h.2 ∙ ap (λ x. x ∷ []) (sym (Contains-one base h.0 h.1))) z)
    where
      one : (v : List ℕ) → Along (base ∷ []) v → Member (one_of (b ∷ bytes)) v
      one [] y = absurd y
      one (c ∷ []) y = (c, subst (λ l. Contains l c) g y.0, refl)
      one (c ∷ d ∷ v) y = absurd y.1
  unnumbered empty_string base ks w g h z = nothing_along ks w h z
  unnumbered (in_turn r s) base ks w g h z =
      let p = zip_parts (λ k b. Contains (S k) b) h.0 h.1 w (subst (λ x. Along x w) h.2 z) in (
        p.0,
        p.1,
        p.2,
        unnumbered r base h.0 p.0 g.0 h.3 p.3,
        unnumbered s (base + set_count r) h.1 p.1 g.1 h.4 p.4,
      )
  unnumbered (or r s) base ks w g (inl h) z = inl (unnumbered r base ks w g.0 h z)
  unnumbered (or r s) base ks w g (inr h) z = inr (unnumbered s (base + set_count r) ks w g.1 h z)
  unnumbered (any_times r) base ks w g h z
      = (h.0, joined_unnumbered r base (λ js v m y. unnumbered r base js v g m y) h.0 ks w h.1 z)
  unnumbered (some_times r) base ks w g h z
      = (h.0, h.1, joined_unnumbered r base (λ js v m y. unnumbered r base js v g m y) h.0 ks w h.2 z)
  unnumbered (maybe r) base ks w g (inl h) z = inl (nothing_along ks w h z)
  unnumbered (maybe r) base ks w g (inr h) z = inr (unnumbered r base ks w g h z)

  joined_bytes : (r : Plain) (base : ℕ) → ((ks : List ℕ) → Member (numbered r base) ks → (w : List ℕ) × Along ks w)
      → (k : ℕ) (ks : List ℕ) → Concatenated (Member (numbered r base)) k ks → (w : List ℕ) × Along ks w
  joined_bytes r base f zero ks j = ([], subst (λ z. Along z []) (sym j) tt)
  joined_bytes r base f (suc k) ks j =
      let a = f j.0 j.3 in
      let b = joined_bytes r base f k j.1 j.4 in (
        a.0 ++ b.0,
        subst (λ z. Along z (a.0 ++ b.0)) (sym j.2)
            (zip_both (λ k b. Contains (S k) b) j.0 j.1 a.0 b.0 a.1 b.1),
      )

  -- along such numbers some string is read
  pub some_bytes : (r : Plain) (base : ℕ) (ks : List ℕ) → Agrees S r base → Member (numbered r base) ks
      → (w : List ℕ) × Along ks w
  some_bytes (one_of []) base ks g h = Contains-none h.0 h.1
  some_bytes (one_of (b ∷ bytes)) base ks g h = (
    b ∷ [],
    subst (λ z. Along z (b ∷ [])) (sym (h.2 ∙ ap (λ x. x ∷ []) (sym (Contains-one base h.0 h.1))))
        (subst (λ l. Contains l b) (sym g) (Contains-first b bytes), tt),
  )
  some_bytes empty_string base ks g h = ([], subst (λ z. Along z []) (sym h) tt)
  some_bytes (in_turn r s) base ks g h =
      let a = some_bytes r base h.0 g.0 h.3 in
      let b = some_bytes s (base + set_count r) h.1 g.1 h.4 in (
        a.0 ++ b.0,
        subst (λ z. Along z (a.0 ++ b.0)) (sym h.2)
            (zip_both (λ k b. Contains (S k) b) h.0 h.1 a.0 b.0 a.1 b.1),
      )
  some_bytes (or r s) base ks g (inl h) = some_bytes r base ks g.0 h
  some_bytes (or r s) base ks g (inr h) = some_bytes s (base + set_count r) ks g.1 h
  some_bytes (any_times r) base ks g h = joined_bytes r base (λ js m. some_bytes r base js g m) h.0 ks h.1
  some_bytes (some_times r) base ks g h = joined_bytes r base (λ js m. some_bytes r base js g m) h.0 ks h.2
  some_bytes (maybe r) base ks g (inl h) = ([], subst (λ z. Along z []) (sym h) tt)
  some_bytes (maybe r) base ks g (inr h) = some_bytes r base ks g h

-- paths
module _ (r : Plain) where
  -- a path is a string of the numbers, the end mark's too
  as_member : (ks : List ℕ) → Path r ks → Member (numbered (in_turn r (one_of (0 ∷ []))) 0) ks
  as_member ks p =
      let e : set_count r ≡ 0 + set_count r = omega arith in (
        p.0,
        set_count r ∷ [],
        p.2,
        p.1,
        (0 + set_count r, Contains-first (0 + set_count r) [], ap (λ x. x ∷ []) e),
      )

  of_member : (ks : List ℕ) → Member (numbered (in_turn r (one_of (0 ∷ []))) 0) ks → Path r ks
  of_member ks m =
      let e : m.4.0 ≡ set_count r = sym (Contains-one (0 + set_count r) m.4.0 m.4.1) ∙ omega arith in
      (m.0, m.3, m.2 ∙ ap (λ z. m.0 ++ z) (m.4.2 ∙ ap (λ x. x ∷ []) e))

  -- two paths that go through one number may change over there
  pub path_over : (k : ℕ) (xs ys us vs : List ℕ) → Path r (xs ++ k ∷ ys) → Path r (us ++ k ∷ vs) → Path r (xs ++ k ∷ vs)
  path_over k xs ys us vs p q = of_member (xs ++ k ∷ vs) (change_over (in_turn r (one_of (0 ∷ []))) 0 k xs ys us vs
      (as_member (xs ++ k ∷ ys) p) (as_member (us ++ k ∷ vs) q))

  -- the end mark ends a path
  pub path_end : (xs ys : List ℕ) → Path r (xs ++ set_count r ∷ ys) → Member (numbered r 0) xs × (ys ≡ [])
  path_end xs ys p = elim (split p.0 (set_count r ∷ []) xs ys (set_count r) p.2) [
    | inl h ↦ let a = in_range r 0 (set_count r) xs h.more (subst (Member (numbered r 0)) h.first p.1)
        in absurd (omega (arith, a.1))
    | inr h ↦
        let a = alone h.less ys (set_count r) (set_count r) (sym h.second) in
        let e : xs ≡ p.0 = h.front ∙ ap (λ z. p.0 ++ z) a.0 ∙ append-nil p.0 in
        (subst (Member (numbered r 0)) (sym e) p.1, a.2)
  ]

  -- a number on a path is that of a set or of the end mark
  pub path_range : (k : ℕ) (xs ys : List ℕ) → Path r (xs ++ k ∷ ys) → k ≤ set_count r
  path_range k xs ys p = elim (split p.0 (set_count r ∷ []) xs ys k p.2) [
    | inl h ↦ let a = in_range r 0 k xs h.more (subst (Member (numbered r 0)) h.first p.1) in omega (arith, a.1)
    | inr h ↦ let a = alone h.less ys k (set_count r) (sym h.second) in omega (arith, a.1)
  ]
