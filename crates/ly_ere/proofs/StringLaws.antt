-- An expression whose names are all defined has a string.
use Rattle.std.proofs.Common.{◌≡◌, ℕ, zero, suc, ◌<◌, ◌≤◌, ◌⊎◌, List, [], ◌∷◌, ◌++◌, length, get_or, Some, refl, inl}
use Rattle.std.proofs.Common.{inr}
use Rattle.std.proofs.Common.{arith}
use Rattle.std.proofs.lemmas.Bool.{cases_lt}
use Rattle.std.proofs.lemmas.Option.{slice_get-get_or}
use Rattle.ly_base.proofs.MemberLemmas.{Contains-first}
use Rattle.ly_ere.specs.Expression.{Expression, MatchesUnder, NamedUpTo, concat, either, empty, name, optional}
use Rattle.ly_ere.specs.Expression.{plus, repeat, set, star}
use Rattle.ly_ere.specs.Laws.{CutIsTrue, ExpressionHasString}
use Rattle.ly_ere.specs.Lengths.{AreSound, IsSound}
use Rattle.ly_ere.specs.Names.{defined}
use Rattle.ly_ere.proofs.LengthLemmas.{copies, copies_joined}
use Rattle.ly_ere.proofs.PatternLaws.{cut_is_true}

string_under : (N : ℕ → List ℕ → Type 0) (n : ℕ) → ((x : ℕ) → x < n → (w : List ℕ) × N x w) → (e : Expression)
    → IsSound n e → (w : List ℕ) × MatchesUnder N e w
string_under N n named (set []) h = absurd (h refl)
string_under N n named (set (b ∷ bs)) h = (b ∷ [], (b, Contains-first b bs, refl))
string_under N n named empty h = ([], refl)
string_under N n named (concat r s) h =
    let u = string_under N n named r h.0 in
    let v = string_under N n named s h.1 in
    (u.0 ++ v.0, (u.0, v.0, refl, u.1, v.1))
string_under N n named (either r s) h = let u = string_under N n named r h.0 in (u.0, inl u.1)
string_under N n named (star r) h = ([], (0, refl))
string_under N n named (plus r) h = let u = string_under N n named r h
    in (copies 1 u.0, (1, omega arith, copies_joined (MatchesUnder N r) 1 u.0 u.1))
string_under N n named (optional r) h = ([], inl refl)
string_under N n named (repeat k m r) h = let u = string_under N n named r h.1
    in (copies k u.0, (k, omega arith, h.0, copies_joined (MatchesUnder N r) k u.0 u.1))
string_under N n named (name x) h = named x h

named_string : (names : List Expression) → AreSound names → (n : ℕ) → n ≤ length names → (x : ℕ) → x < n
    → (w : List ℕ) × NamedUpTo names n x w
named_string names sound zero le x less = absurd (omega (arith, less))
named_string names sound (suc n) le x less = by (cases_lt x n) (λ y l. named_string names sound n (omega arith) y l)
  where
    by : (x < n) ⊎ (n ≤ x) → ((y : ℕ) → y < n → (w : List ℕ) × NamedUpTo names n y w)
        → (w : List ℕ) × NamedUpTo names (suc n) x w
    by (inl before) f = let u = f x before in (u.0, inr (before, u.1))
    by (inr after) f =
        let is : _ ≡ Some (get_or names n empty) = slice_get-get_or names n empty (omega arith) in
        let u = string_under (NamedUpTo names n) n f (get_or names n empty) (sound n (get_or names n empty) is) in
        (u.0, inl (omega (arith, after, less), get_or names n empty, is, u.1))

pub has_string : ExpressionHasString
has_string names e sound h = string_under (NamedUpTo names (length names)) (length names)
    (named_string names sound (length names) (omega arith)) e h

pub true_cut : CutIsTrue
true_cut names text p x = cut_is_true (defined names) p.head p.tail p.cut x.is_cut
