-- Expressions without idle operators: their strings, and their numbers where bytes are numbered.
use Rattle.std.proofs.Common.{◌≡◌, ◌⊎◌, inl, inr, ℕ, ◌+◌, ◌<◌, ◌≤◌, List, [], ◌∷◌, ◌++◌, true, Option}
use Rattle.std.proofs.Common.{Some, None, refl, sym, ap, ap₂, subst, ◌∙◌, arith}
use Rattle.std.specs.Prelude.{◌↔◌, option_map}
use Rattle.std.proofs.lemmas.Bool.{cases_Bool}
use Rattle.ly_base.proofs.MemberLemmas.{Contains-none}
use Rattle.ly_ere.specs.Expression.{Expression, set, empty, concat, either, star, plus, optional, repeat, name}
use Rattle.ly_ere.specs.Expression.{MatchesUnder}
use Rattle.ly_position.specs.Written.{Plain, one_of, empty_string, in_turn, or, any_times, some_times, maybe, Member}
use Rattle.ly_position.specs.Numbered.{set_count, numbered}
use Rattle.ly_position.specs.Private.Program.{IsPlainExpression}
use Rattle.ly_position.specs.Private.Slim.{is_empty, both_of, slim, slim_concat, slim_either, slim_star, slim_plus}
use Rattle.ly_position.specs.Private.Slim.{slim_optional}
use Rattle.ly_position.proofs.JoinedLemmas.{InTurn, Same, Star, Plus, Optional, Null, same_trans, in_turn_same}
use Rattle.ly_position.proofs.JoinedLemmas.{or_same, star_same, plus_same, then_null, star_void, star_null, star_star}
use Rattle.ly_position.proofs.JoinedLemmas.{star_plus, star_optional, plus_void, plus_null, plus_star, plus_plus}
use Rattle.ly_position.proofs.JoinedLemmas.{plus_optional, optional_void, optional_null, optional_star, optional_plus}
use Rattle.ly_position.proofs.JoinedLemmas.{optional_optional}
use Rattle.ly_position.proofs.NumberedLemmas.{Agrees}

-- the strings of what may be there
abbrev pub Strings : Option Expression → List ℕ → Type 0
Strings None w = ⊥
Strings (Some e) w = MatchesUnder (λ x v. ⊥) e w

abbrev Of : Expression → List ℕ → Type 0
Of e = MatchesUnder (λ x v. ⊥) e

is_empty-empty : (e : Expression) → is_empty e ≡ true → e ≡ empty
is_empty-empty (set bytes) h = cc
is_empty-empty empty h = refl
is_empty-empty (concat r s) h = cc
is_empty-empty (either r s) h = cc
is_empty-empty (star r) h = cc
is_empty-empty (plus r) h = cc
is_empty-empty (optional r) h = cc
is_empty-empty (repeat m n r) h = cc
is_empty-empty (name x) h = cc

null_then : (L : List ℕ → Type 0) (w : List ℕ) → L w ↔ InTurn Null L w
null_then L w = (λ h. ([], w, refl, refl, h), λ h. subst L (sym (h.2 ∙ ap (λ z. z ++ h.1) h.3)) h.4)

itself : (A : Type 0) → A ↔ A
itself A = (λ h. h, λ h. h)

both_strings : (r s : Expression) → Same (Of (both_of r s)) (InTurn (Of r) (Of s))
both_strings r s w = elim (cases_Bool (is_empty r)) [
  | inl e ↦ subst (λ x. Of (both_of x s) w ↔ InTurn (Of x) (Of s) w) (sym (is_empty-empty r e)) (null_then (Of s) w)
  | inr e ↦ elim (cases_Bool (is_empty s)) [
    | inl f ↦ subst (λ x. Of (both_of r x) w ↔ InTurn (Of r) (Of x) w) (sym (is_empty-empty s f))
        (rw e (then_null (Of r) w))
    | inr f ↦ rw (e, f) (itself (InTurn (Of r) (Of s) w))
  ]
]

concat_strings : (o p : Option Expression) → Same (Strings (slim_concat o p)) (InTurn (Strings o) (Strings p))
concat_strings None p w = (λ h. absurd h, λ h. h.3)
concat_strings (Some r) None w = (λ h. absurd h, λ h. h.4)
concat_strings (Some r) (Some s) w = both_strings r s w

either_strings : (o p : Option Expression) → Same (Strings (slim_either o p)) (λ w. Strings o w ⊎ Strings p w)
either_strings None p w = (λ h. inr h, back)
  where
    back : ⊥ ⊎ Strings p w → Strings p w
    back (inl h) = absurd h
    back (inr h) = h
either_strings (Some r) None w = (λ h. inl h, back)
  where
    back : Of r w ⊎ ⊥ → Of r w
    back (inl h) = h
    back (inr h) = absurd h
either_strings (Some r) (Some s) w = itself (Of r w ⊎ Of s w)

star_strings : (o : Option Expression) → Same (Strings (slim_star o)) (Star (Strings o))
star_strings None w = star_void w
star_strings (Some (set bytes)) w = itself (Star (Of (set bytes)) w)
star_strings (Some empty) w = star_null w
star_strings (Some (concat r s)) w = itself (Star (Of (concat r s)) w)
star_strings (Some (either r s)) w = itself (Star (Of (either r s)) w)
star_strings (Some (star r)) w = star_star (Of r) w
star_strings (Some (plus r)) w = star_plus (Of r) w
star_strings (Some (optional r)) w = star_optional (Of r) w
star_strings (Some (repeat m n r)) w = itself (Star (Of (repeat m n r)) w)
star_strings (Some (name x)) w = itself (Star (Of (name x)) w)

plus_strings : (o : Option Expression) → Same (Strings (slim_plus o)) (Plus (Strings o))
plus_strings None w = plus_void w
plus_strings (Some (set bytes)) w = itself (Plus (Of (set bytes)) w)
plus_strings (Some empty) w = plus_null w
plus_strings (Some (concat r s)) w = itself (Plus (Of (concat r s)) w)
plus_strings (Some (either r s)) w = itself (Plus (Of (either r s)) w)
plus_strings (Some (star r)) w = plus_star (Of r) w
plus_strings (Some (plus r)) w = plus_plus (Of r) w
plus_strings (Some (optional r)) w = plus_optional (Of r) w
plus_strings (Some (repeat m n r)) w = itself (Plus (Of (repeat m n r)) w)
plus_strings (Some (name x)) w = itself (Plus (Of (name x)) w)

optional_strings : (o : Option Expression) → Same (Strings (slim_optional o)) (Optional (Strings o))
optional_strings None w = optional_void w
optional_strings (Some (set bytes)) w = itself (Optional (Of (set bytes)) w)
optional_strings (Some empty) w = optional_null w
optional_strings (Some (concat r s)) w = itself (Optional (Of (concat r s)) w)
optional_strings (Some (either r s)) w = itself (Optional (Of (either r s)) w)
optional_strings (Some (star r)) w = optional_star (Of r) w
optional_strings (Some (plus r)) w = optional_plus (Of r) w
optional_strings (Some (optional r)) w = optional_optional (Of r) w
optional_strings (Some (repeat m n r)) w = itself (Optional (Of (repeat m n r)) w)
optional_strings (Some (name x)) w = itself (Optional (Of (name x)) w)

-- the strings stay the same
pub slim_strings : (r : Plain) → Same (Strings (slim r)) (Member r)
slim_strings (one_of []) w = (λ h. absurd h, λ h. Contains-none h.0 h.1)
slim_strings (one_of (b ∷ bytes)) w = itself (Member (one_of (b ∷ bytes)) w)
slim_strings empty_string w = itself (w ≡ [])
slim_strings (in_turn r s) w = same_trans (Strings (slim_concat (slim r) (slim s)))
    (InTurn (Strings (slim r)) (Strings (slim s))) (InTurn (Member r) (Member s)) (concat_strings (slim r) (slim s))
    (in_turn_same (Strings (slim r)) (Member r) (Strings (slim s)) (Member s) (slim_strings r) (slim_strings s)) w
slim_strings (or r s) w = same_trans (Strings (slim_either (slim r) (slim s)))
    (λ w. Strings (slim r) w ⊎ Strings (slim s) w) (λ w. Member r w ⊎ Member s w) (either_strings (slim r) (slim s))
    (or_same (Strings (slim r)) (Member r) (Strings (slim s)) (Member s) (slim_strings r) (slim_strings s)) w
slim_strings (any_times r) w = same_trans (Strings (slim_star (slim r))) (Star (Strings (slim r))) (Star (Member r))
    (star_strings (slim r)) (star_same (Strings (slim r)) (Member r) (slim_strings r)) w
slim_strings (some_times r) w = same_trans (Strings (slim_plus (slim r))) (Plus (Strings (slim r))) (Plus (Member r))
    (plus_strings (slim r)) (plus_same (Strings (slim r)) (Member r) (slim_strings r)) w
slim_strings (maybe r) w = same_trans (Strings (slim_optional (slim r))) (Optional (Strings (slim r)))
    (Optional (Member r)) (optional_strings (slim r))
    (or_same Null Null (Strings (slim r)) (Member r) (λ w. itself (Null w)) (slim_strings r)) w

-- The numbers of an expression of numbers lie between these, those of one part of it below those of the next.
abbrev pub IsLinear : Expression → ℕ → ℕ → Type 0
IsLinear (set numbers) lo hi = (k : ℕ) × (numbers ≡ k ∷ []) × (lo ≤ k) × (k < hi)
IsLinear empty lo hi = Unit {0}
IsLinear (concat r s) lo hi = (m : ℕ) × (lo ≤ m) × (m ≤ hi) × IsLinear r lo m × IsLinear s m hi
IsLinear (either r s) lo hi = (m : ℕ) × (lo ≤ m) × (m ≤ hi) × IsLinear r lo m × IsLinear s m hi
IsLinear (star r) lo hi = IsLinear r lo hi
IsLinear (plus r) lo hi = IsLinear r lo hi
IsLinear (optional r) lo hi = IsLinear r lo hi
IsLinear (repeat m n r) lo hi = ⊥
IsLinear (name x) lo hi = ⊥

wider : (e : Expression) (lo hi low high : ℕ) → low ≤ lo → hi ≤ high → IsLinear e lo hi → IsLinear e low high
wider (set numbers) lo hi low high l m h = (h.0, h.1, omega (arith, h.2), omega (arith, h.3))
wider empty lo hi low high l m h = tt
wider (concat r s) lo hi low high l m h = (
  h.0,
  omega (arith, h.1),
  omega (arith, h.2),
  wider r lo h.0 low h.0 l (omega arith) h.3,
  wider s h.0 hi h.0 high (omega arith) m h.4,
)
wider (either r s) lo hi low high l m h = (
  h.0,
  omega (arith, h.1),
  omega (arith, h.2),
  wider r lo h.0 low h.0 l (omega arith) h.3,
  wider s h.0 hi h.0 high (omega arith) m h.4,
)
wider (star r) lo hi low high l m h = wider r lo hi low high l m h
wider (plus r) lo hi low high l m h = wider r lo hi low high l m h
wider (optional r) lo hi low high l m h = wider r lo hi low high l m h
wider (repeat a b r) lo hi low high l m h = h
wider (name x) lo hi low high l m h = h

-- such an expression is plain
pub linear_plain : (e : Expression) (lo hi : ℕ) → IsLinear e lo hi → IsPlainExpression e
linear_plain (set numbers) lo hi h = λ e. let f = h.1 in cc
linear_plain empty lo hi h = tt
linear_plain (concat r s) lo hi h = (linear_plain r lo h.0 h.3, linear_plain s h.0 hi h.4)
linear_plain (either r s) lo hi h = (linear_plain r lo h.0 h.3, linear_plain s h.0 hi h.4)
linear_plain (star r) lo hi h = linear_plain r lo hi h
linear_plain (plus r) lo hi h = linear_plain r lo hi h
linear_plain (optional r) lo hi h = linear_plain r lo hi h
linear_plain (repeat a b r) lo hi h = h
linear_plain (name x) lo hi h = h

abbrev LinearPart : Option Expression → ℕ → ℕ → Type 0
LinearPart None lo hi = Unit {0}
LinearPart (Some e) lo hi = IsLinear e lo hi

wider_part : (o : Option Expression) (lo hi low high : ℕ) → low ≤ lo → hi ≤ high → LinearPart o lo hi
    → LinearPart o low high
wider_part None lo hi low high l m h = tt
wider_part (Some e) lo hi low high l m h = wider e lo hi low high l m h

concat_linear : (o p : Option Expression) (lo m hi : ℕ) → lo ≤ m → m ≤ hi → LinearPart o lo m → LinearPart p m hi
    → LinearPart (slim_concat o p) lo hi
concat_linear None p lo m hi l n h k = tt
concat_linear (Some r) None lo m hi l n h k = tt
concat_linear (Some r) (Some s) lo m hi l n h k = elim (cases_Bool (is_empty r)) [
  | inl e ↦ rw e (wider s m hi lo hi l (omega arith) k)
  | inr e ↦ rw e (elim (cases_Bool (is_empty s)) [
    | inl f ↦ rw f (wider r lo m lo hi (omega arith) n h)
    | inr f ↦ rw f (m, l, n, h, k)
  ])
]

either_linear : (o p : Option Expression) (lo m hi : ℕ) → lo ≤ m → m ≤ hi → LinearPart o lo m → LinearPart p m hi
    → LinearPart (slim_either o p) lo hi
either_linear None p lo m hi l n h k = wider_part p m hi lo hi l (omega arith) k
either_linear (Some r) None lo m hi l n h k = wider r lo m lo hi (omega arith) n h
either_linear (Some r) (Some s) lo m hi l n h k = (m, l, n, h, k)

star_linear : (o : Option Expression) (lo hi : ℕ) → LinearPart o lo hi → LinearPart (slim_star o) lo hi
star_linear None lo hi h = tt
star_linear (Some (set bytes)) lo hi h = h
star_linear (Some empty) lo hi h = h
star_linear (Some (concat r s)) lo hi h = h
star_linear (Some (either r s)) lo hi h = h
star_linear (Some (star r)) lo hi h = h
star_linear (Some (plus r)) lo hi h = h
star_linear (Some (optional r)) lo hi h = h
star_linear (Some (repeat m n r)) lo hi h = h
star_linear (Some (name x)) lo hi h = h

plus_linear : (o : Option Expression) (lo hi : ℕ) → LinearPart o lo hi → LinearPart (slim_plus o) lo hi
plus_linear None lo hi h = tt
plus_linear (Some (set bytes)) lo hi h = h
plus_linear (Some empty) lo hi h = h
plus_linear (Some (concat r s)) lo hi h = h
plus_linear (Some (either r s)) lo hi h = h
plus_linear (Some (star r)) lo hi h = h
plus_linear (Some (plus r)) lo hi h = h
plus_linear (Some (optional r)) lo hi h = h
plus_linear (Some (repeat m n r)) lo hi h = h
plus_linear (Some (name x)) lo hi h = h

optional_linear : (o : Option Expression) (lo hi : ℕ) → LinearPart o lo hi → LinearPart (slim_optional o) lo hi
optional_linear None lo hi h = tt
optional_linear (Some (set bytes)) lo hi h = h
optional_linear (Some empty) lo hi h = h
optional_linear (Some (concat r s)) lo hi h = h
optional_linear (Some (either r s)) lo hi h = h
optional_linear (Some (star r)) lo hi h = h
optional_linear (Some (plus r)) lo hi h = h
optional_linear (Some (optional r)) lo hi h = h
optional_linear (Some (repeat m n r)) lo hi h = h
optional_linear (Some (name x)) lo hi h = h

numbered_linear : (r : Plain) (base : ℕ) → LinearPart (slim (numbered r base)) base (base + set_count r)
numbered_linear (one_of []) base = tt
numbered_linear (one_of (b ∷ bytes)) base = (base, refl, omega arith, omega arith)
numbered_linear empty_string base = tt
numbered_linear (in_turn r s) base =
    let e : base + set_count r + set_count s ≡ base + (set_count r + set_count s) = omega arith in
    let a = numbered_linear s (base + set_count r) in
    subst (λ z. LinearPart (slim (numbered (in_turn r s) base)) base z) e
    (concat_linear (slim (numbered r base)) (slim (numbered s (base + set_count r))) base (base + set_count r)
    (base + set_count r + set_count s) (omega arith) (omega arith) (numbered_linear r base) a)
numbered_linear (or r s) base =
    let e : base + set_count r + set_count s ≡ base + (set_count r + set_count s) = omega arith in
    let a = numbered_linear s (base + set_count r) in
    subst (λ z. LinearPart (slim (numbered (or r s) base)) base z) e
    (either_linear (slim (numbered r base)) (slim (numbered s (base + set_count r))) base (base + set_count r)
    (base + set_count r + set_count s) (omega arith) (omega arith) (numbered_linear r base) a)
numbered_linear (any_times r) base = star_linear (slim (numbered r base)) base (base + set_count r)
    (numbered_linear r base)
numbered_linear (some_times r) base = plus_linear (slim (numbered r base)) base (base + set_count r)
    (numbered_linear r base)
numbered_linear (maybe r) base = optional_linear (slim (numbered r base)) base (base + set_count r)
    (numbered_linear r base)

-- a numbered expression without idle operators has its numbers in order
pub slim_linear : (r : Plain) (e : Expression) → slim (numbered r 0) ≡ Some e → IsLinear e 0 (set_count r)
slim_linear r e is =
    let at : 0 + set_count r ≡ set_count r = omega arith in
    subst (λ z. IsLinear e 0 z) at (subst (λ o. LinearPart o 0 (0 + set_count r)) is (numbered_linear r 0))

-- bytes in place of numbers
abbrev pub fill_set : (ℕ → List ℕ) → List ℕ → List ℕ
fill_set S [] = []
fill_set S (k ∷ ks) = S k

abbrev pub fill : (ℕ → List ℕ) → Expression → Expression
fill S (set numbers) = set (fill_set S numbers)
fill S empty = empty
fill S (concat r s) = concat (fill S r) (fill S s)
fill S (either r s) = either (fill S r) (fill S s)
fill S (star r) = star (fill S r)
fill S (plus r) = plus (fill S r)
fill S (optional r) = optional (fill S r)
fill S (repeat m n r) = repeat m n (fill S r)
fill S (name x) = name x

module _ (S : ℕ → List ℕ) where
  is_empty-fill : (e : Expression) → is_empty (fill S e) ≡ is_empty e
  is_empty-fill (set bytes) = refl
  is_empty-fill empty = refl
  is_empty-fill (concat r s) = refl
  is_empty-fill (either r s) = refl
  is_empty-fill (star r) = refl
  is_empty-fill (plus r) = refl
  is_empty-fill (optional r) = refl
  is_empty-fill (repeat m n r) = refl
  is_empty-fill (name x) = refl

  both_fill : (r s : Expression) → both_of (fill S r) (fill S s) ≡ fill S (both_of r s)
  both_fill r s = rw (is_empty-fill r, is_empty-fill s) (elim (cases_Bool (is_empty r)) [
    | inl e ↦ rw e refl
    | inr e ↦ rw e (elim (cases_Bool (is_empty s)) [ inl f ↦ rw f refl | inr f ↦ rw f refl ])
  ])

  abbrev filled : Option Expression → Option Expression
  filled = option_map (fill S)

  concat_fill : (o p : Option Expression) → slim_concat (filled o) (filled p) ≡ filled (slim_concat o p)
  concat_fill None p = refl
  concat_fill (Some r) None = refl
  concat_fill (Some r) (Some s) = ap (λ e. Some e) (both_fill r s)

  either_fill : (o p : Option Expression) → slim_either (filled o) (filled p) ≡ filled (slim_either o p)
  either_fill None p = refl
  either_fill (Some r) None = refl
  either_fill (Some r) (Some s) = refl

  star_fill : (o : Option Expression) → slim_star (filled o) ≡ filled (slim_star o)
  star_fill None = refl
  star_fill (Some (set bytes)) = refl
  star_fill (Some empty) = refl
  star_fill (Some (concat r s)) = refl
  star_fill (Some (either r s)) = refl
  star_fill (Some (star r)) = refl
  star_fill (Some (plus r)) = refl
  star_fill (Some (optional r)) = refl
  star_fill (Some (repeat m n r)) = refl
  star_fill (Some (name x)) = refl

  plus_fill : (o : Option Expression) → slim_plus (filled o) ≡ filled (slim_plus o)
  plus_fill None = refl
  plus_fill (Some (set bytes)) = refl
  plus_fill (Some empty) = refl
  plus_fill (Some (concat r s)) = refl
  plus_fill (Some (either r s)) = refl
  plus_fill (Some (star r)) = refl
  plus_fill (Some (plus r)) = refl
  plus_fill (Some (optional r)) = refl
  plus_fill (Some (repeat m n r)) = refl
  plus_fill (Some (name x)) = refl

  optional_fill : (o : Option Expression) → slim_optional (filled o) ≡ filled (slim_optional o)
  optional_fill None = refl
  optional_fill (Some (set bytes)) = refl
  optional_fill (Some empty) = refl
  optional_fill (Some (concat r s)) = refl
  optional_fill (Some (either r s)) = refl
  optional_fill (Some (star r)) = refl
  optional_fill (Some (plus r)) = refl
  optional_fill (Some (optional r)) = refl
  optional_fill (Some (repeat m n r)) = refl
  optional_fill (Some (name x)) = refl

  -- what was written out without idle operators is what was numbered first, with bytes for numbers
  pub slim_fill : (r : Plain) (base : ℕ) → Agrees S r base → slim r ≡ filled (slim (numbered r base))
  slim_fill (one_of []) base g = refl
  slim_fill (one_of (b ∷ bytes)) base g = ap (λ l. Some (set l)) (sym g)
  slim_fill empty_string base g = refl
  slim_fill (in_turn r s) base g = ap₂ slim_concat (slim_fill r base g.0) (slim_fill s (base + set_count r) g.1)
      ∙ concat_fill (slim (numbered r base)) (slim (numbered s (base + set_count r)))
  slim_fill (or r s) base g = ap₂ slim_either (slim_fill r base g.0) (slim_fill s (base + set_count r) g.1)
      ∙ either_fill (slim (numbered r base)) (slim (numbered s (base + set_count r)))
  slim_fill (any_times r) base g = ap slim_star (slim_fill r base g) ∙ star_fill (slim (numbered r base))
  slim_fill (some_times r) base g = ap slim_plus (slim_fill r base g) ∙ plus_fill (slim (numbered r base))
  slim_fill (maybe r) base g = ap slim_optional (slim_fill r base g) ∙ optional_fill (slim (numbered r base))
