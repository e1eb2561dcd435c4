-- Which positions there are where every set has a byte.
use Rattle.std.proofs.Common.{◌≡◌, inl, inr, ℕ, zero, suc, ◌+◌, ◌-◌, ◌<◌, ◌≤◌, List, [], ◌∷◌, ◌++◌, length, Option}
use Rattle.std.proofs.Common.{Some, None, refl, sym, ap, subst, ◌∙◌, arith, append_assoc}
use Rattle.std.specs.Prelude.{slice_get, IfSome}
use Rattle.std.proofs.lemmas.Bool.{cases_eq, cases_lt, eq-eqb, le-leb, ne_eqb}
use Rattle.ly_base.proofs.MemberLemmas.{Contains-first}
use Rattle.ly_ere.specs.Expression.{Expression, set, empty, concat, either, star, plus, optional, repeat, name}
use Rattle.ly_ere.specs.Expression.{IsAtMost}
use Rattle.ly_ere.specs.Lengths.{AreSound, IsSound}
use Rattle.ly_ere.specs.declared.pattern.Rule.{Rule}
use Rattle.ly_position.specs.Nfa.{Nfa}
use Rattle.ly_position.specs.Written.{Plain, one_of, empty_string, in_turn, or, any_times, some_times, maybe, Member}
use Rattle.ly_position.specs.Written.{copies, named_up_to, pattern_written, times, up_to, with_tail, written}
use Rattle.ly_position.specs.Written.{written_under}
use Rattle.ly_position.specs.Numbered.{numbered, set_count, IsFull, IsPosition}
use Rattle.ly_position.specs.Spots.{Spot, IsSpot, HasPositions}
use Rattle.ly_position.specs.Laws.{AllArePositions, SomeHasTwoPositions, SoundHasAll}
use Rattle.ly_base.proofs.PigeonholeLemmas.{pigeonhole}
use Rattle.ly_base.proofs.ListLemmas.{some_at}
use Rattle.ly_position.proofs.NumberedLemmas.{path_range}
use Rattle.ly_position.proofs.SpotLemmas.{same_spot}
use Rattle.ly_position.proofs.SplitLemmas.{once_in}

-- some string of numbers
some_numbers : (r : Plain) (base : ℕ) → IsFull r → (ks : List ℕ) × Member (numbered r base) ks
some_numbers (one_of []) base f = absurd (f refl)
some_numbers (one_of (b ∷ bytes)) base f = (base ∷ [], (base, Contains-first base [], refl))
some_numbers empty_string base f = ([], refl)
some_numbers (in_turn r s) base f =
    let a = some_numbers r base f.0 in
    let b = some_numbers s (base + set_count r) f.1 in
    (a.0 ++ b.0, (a.0, b.0, refl, a.1, b.1))
some_numbers (or r s) base f = let a = some_numbers r base f.0 in (a.0, inl a.1)
some_numbers (any_times r) base f = ([], (0, refl))
some_numbers (some_times r) base f = let a = some_numbers r base f
    in (a.0, (1, omega arith, once_in (Member (numbered r base)) a.0 a.1))
some_numbers (maybe r) base f = ([], inl refl)

-- each number stands in some string
abbrev Through : Plain → ℕ → ℕ → Type 0
Through r base k = (xs : List ℕ) × (ys : List ℕ) × Member (numbered r base) (xs ++ k ∷ ys)

through : (r : Plain) (base k : ℕ) → IsFull r → base ≤ k → k < base + set_count r → Through r base k
through (one_of []) base k f l m = absurd (f refl)
through (one_of (b ∷ bytes)) base k f l m =
    let same : k ≡ base = omega arith in
    ([], [], (base, Contains-first base [], ap (λ x. x ∷ []) same))
through empty_string base k f l m = absurd (omega arith)
through (in_turn r s) base k f l m = elim (cases_lt k (base + set_count r)) [
  | inl less ↦
      let a = through r base k f.0 l less in
      let b = some_numbers s (base + set_count r) f.1 in
      (a.0, a.1 ++ b.0, (a.0 ++ k ∷ a.1, b.0, sym (append_assoc a.0 (k ∷ a.1) b.0), a.2, b.1))
  | inr past ↦
      let a = some_numbers r base f.0 in
      let b = through s (base + set_count r) k f.1 past (omega arith) in
      (a.0 ++ b.0, b.1, (a.0, b.0 ++ k ∷ b.1, append_assoc a.0 b.0 (k ∷ b.1), a.1, b.2))
]
through (or r s) base k f l m = elim (cases_lt k (base + set_count r)) [
  | inl less ↦ let a = through r base k f.0 l less in (a.0, a.1, inl a.2)
  | inr past ↦ let b = through s (base + set_count r) k f.1 past (omega arith) in (b.0, b.1, inr b.2)
]
through (any_times r) base k f l m = let a = through r base k f l m
    in (a.0, a.1, (1, once_in (Member (numbered r base)) (a.0 ++ k ∷ a.1) a.2))
through (some_times r) base k f l m = let a = through r base k f l m
    in (a.0, a.1, (1, omega arith, once_in (Member (numbered r base)) (a.0 ++ k ∷ a.1) a.2))
through (maybe r) base k f l m = let a = through r base k f l m in (a.0, a.1, inr a.2)

pub all_are_positions : AllArePositions
all_are_positions r k f = (λ h. path_range r k h.0 h.1 h.2, back)
  where
    back : k ≤ set_count r → IsPosition r k
    back l = elim (cases_lt k (set_count r)) [
      | inl less ↦
          let a = through r 0 k f (omega arith) (omega arith) in (
            a.0,
            a.1 ++ set_count r ∷ [],
            (a.0 ++ k ∷ a.1, a.2, sym (append_assoc a.0 (k ∷ a.1) (set_count r ∷ []))),
          )
      | inr past ↦
          let a = some_numbers r 0 f in
          let same : k ≡ set_count r = omega arith in
          (a.0, [], (a.0, a.1, ap (λ x. a.0 ++ x ∷ []) same))
    ]

-- `a+` written out
abbrev some_a : Plain
some_a = some_times (one_of (97 ∷ []))

full_a : IsFull some_a
full_a = λ e. cc

module _ (names : List Expression) (r : Rule) (conditions : ℕ) (nfa : Nfa)
    (head : r.pattern.head ≡ plus (set (97 ∷ []))) (tail : r.pattern.tail ≡ None)
    (has : HasPositions names (r ∷ []) conditions nfa) where
  pattern_is : pattern_written names r.pattern ≡ some_a
  pattern_is = ap (λ e. with_tail names (written names e) r.pattern.tail) head
      ∙ ap (with_tail names (written names (plus (set (97 ∷ []))))) tail

  only_rule : (i : ℕ) (q : Rule) → slice_get (r ∷ []) i ≡ Some q → (i ≡ 0) × (r ≡ q)
  only_rule zero q e = (refl, cc)
  only_rule (suc i) q e = cc

  -- each spot is one of two
  small : (s : Spot) → IsSpot names (r ∷ []) s → (s.rule ≡ 0) × (s.number < 2)
  small s h =
      let one = only_rule s.rule h.0 h.1 in
      let at : IsPosition (pattern_written names r.pattern) s.number
      = subst (λ (q : Rule). IsPosition (pattern_written names q.pattern) s.number) (sym one.1) h.2 in
      let low = (all_are_positions some_a s.number full_a).0 (subst (λ x. IsPosition x s.number) pattern_is at) in
      (one.0, omega (arith, low))

  there : (n : ℕ) → n < 2 → IsSpot names (r ∷ []) (record { rule = 0; number = n })
  there n l = (
    r,
    refl,
    subst (λ x. IsPosition x n) (sym pattern_is)
        ((all_are_positions some_a n full_a).1 (omega arith)),
  )

  pub two : length nfa.positions ≡ 2
  two =
      let most = pigeonhole (length nfa.positions) 2 (λ p n. (has.0 p).number ≡ n)
      (λ p l. let s = small (has.0 p) (has.1.is_spot p l) in ((has.0 p).number, s.1, refl))
      (λ p q n l m e f. has.1.once p q l m (same_spot (has.0 p) (has.0 q)
      ((small (has.0 p) (has.1.is_spot p l)).0 ∙ sym (small (has.0 q) (has.1.is_spot q m)).0) (e ∙ sym f))) in
      let least = pigeonhole 2 (length nfa.positions) (λ n p. has.0 p ≡ record { rule = 0; number = n })
      (λ n l. has.1.each (record { rule = 0; number = n }) (there n l))
      (λ n m p l k e f. ap (λ (s : Spot). s.number) (sym e ∙ f)) in
      omega arith

pub some_has_two_positions : SomeHasTwoPositions
some_has_two_positions names r conditions nfa head tail has = two names r conditions nfa head tail has

-- copies of what is full are full
copies_full : (m : ℕ) (r s : Plain) → IsFull r → IsFull s → IsFull (copies m r s)
copies_full zero r s f g = g
copies_full (suc m) r s f g = (f, copies_full m r s f g)

up_to_full : (n : ℕ) (r : Plain) → IsFull r → IsFull (up_to n r)
up_to_full zero r f = tt
up_to_full (suc n) r f = (f, up_to_full n r f)

times_full : (m : ℕ) (n : Option ℕ) (r : Plain) → IsAtMost m n → IsFull r → IsFull (times m n r)
times_full zero None r l f = f
times_full (suc m) None r l f = copies_full m r (some_times r) f f
times_full m (Some n) r l f = rw (le-leb m n l) (copies_full m r (up_to (n - m) r) f (up_to_full (n - m) r f))

-- a sound expression written out is full
module _ (P : ℕ → Plain) (n : ℕ) (named : (x : ℕ) → x < n → IsFull (P x)) where
  full_under : (e : Expression) → IsSound n e → IsFull (written_under P e)
  full_under (set bytes) h = h
  full_under empty h = tt
  full_under (concat r s) h = (full_under r h.0, full_under s h.1)
  full_under (either r s) h = (full_under r h.0, full_under s h.1)
  full_under (star r) h = full_under r h
  full_under (plus r) h = full_under r h
  full_under (optional r) h = full_under r h
  full_under (repeat k m r) h = times_full k m (written_under P r) h.0 (full_under r h.1)
  full_under (name x) h = named x h

named_full : (names : List Expression) → AreSound names → (n x : ℕ) → n ≤ length names → x < n
    → IsFull (named_up_to names n x)
named_full names sound zero x l m = absurd (omega (arith, m))
named_full names sound (suc n) x l m = elim (cases_eq x n) [
  | inl same ↦
      let d = some_at names n (omega arith) in
      rw (eq-eqb x n same, d.1) (full_under (named_up_to names n) n
      (λ y less. named_full names sound n y (omega arith) less) d.0 (sound n d.0 d.1))
  | inr other ↦ rw (ne_eqb x n other) (named_full names sound n x (omega arith) (omega arith))
]

written_full : (names : List Expression) (e : Expression) → AreSound names → IsSound (length names) e
    → IsFull (written names e)
written_full names e sound h = full_under (named_up_to names (length names)) (length names)
    (λ x l. named_full names sound (length names) x (omega arith) l) e h

tail_full : (names : List Expression) (head : Plain) (tail : Option Expression) → AreSound names → IsFull head
    → IfSome tail (IsSound (length names)) → IsFull (with_tail names head tail)
tail_full names head None sound f h = f
tail_full names head (Some t) sound f h = (f, written_full names t sound h)

pub sound_has_all : SoundHasAll
sound_has_all names p k sound head tail = all_are_positions (pattern_written names p) k
    (tail_full names (written names p.head) p.tail sound (written_full names p.head sound head) tail)
