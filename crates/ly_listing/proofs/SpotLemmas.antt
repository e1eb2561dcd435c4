-- The location after further bytes, and decimals.
use Rattle.std.proofs.Common.{◌≡◌, ◌∙◌, ◌<◌, ◌≤◌, ◌+◌, ◌-◌, ◌/◌, ◌%◌, ◌^◌, ℕ, List, [], ◌∷◌, ◌++◌, Bool, ap, append-nil}
use Rattle.std.proofs.Common.{append_assoc, arith, cond, drop, false, get_or, length, length-append, length-take-le, not}
use Rattle.std.proofs.Common.{refl, reverse, suc, sym, take, take-add, true, zero}
use Rattle.std.proofs.Math.Seq.{take-append-add}
use Rattle.std.proofs.lemmas.Fmt.{decimal_nonempty, decimal_step}
use Rattle.std.proofs.lemmas.Grind.{take-set_at}
use Rattle.std.proofs.lemmas.List.{reverse-append, take-take, take_more}
use Rattle.std.specs.Fmt.{decimal}
use Rattle.std.proofs.lemmas.Bool.Decides.{nat_tests}
use Rattle.std.proofs.lemmas.List.Sums.{sum_by-append, take_while-cons}
use Rattle.std.specs.List.{count_by, take_while}
use Rattle.std.specs.Prelude.{if◌then◌else◌, slice_set}
use Rattle.ly_base.specs.Location.{column_behind, is_newline, line_behind}
use Rattle.ly_listing.specs.Private.Spot.{column_on}

column_one : (front : List ℕ) (b : ℕ)
    → column_behind (front ++ b ∷ []) ≡ (if is_newline b then 1 else column_behind front + 1)
column_one front b =
    ap (λ r. 1 + length (take_while (λ byte. not (is_newline byte)) r)) (reverse-append front (b ∷ []))
    ∙ ap (λ t. 1 + length t) (take_while-cons (λ byte. not (is_newline byte)) b (reverse front))
    ∙ by (is_newline b)
  where
    by : (t : Bool) → 1 + length (cond (not t) (b ∷ take_while (λ byte. not (is_newline byte)) (reverse front)) [])
        ≡ (if t then 1 else column_behind front + 1)
    by true = omega arith
    by false = omega arith

-- the column after bytes behind a prefix
pub column_further : (front bytes : List ℕ) → column_behind (front ++ bytes) ≡ column_on (column_behind front) bytes
column_further front [] = ap column_behind (append-nil front)
column_further front (b ∷ bs) = ap column_behind (sym (append_assoc front (b ∷ []) bs))
    ∙ column_further (front ++ b ∷ []) bs ∙ ap (λ n. column_on n bs) (column_one front b)

-- a prefix, and the bytes from there to a further offset
pub prefix_further : (text : List ℕ) (here there : ℕ) → here ≤ there
    → take there text ≡ take here text ++ take (there - here) (drop here text)
prefix_further text here there behind =
    let sum : here + (there - here) ≡ there = omega (arith, behind) in
    ap (λ n. take n text) (sym sum) ∙ take-add here (there - here) text

-- likewise, one byte more
column_last : (column : ℕ) (xs : List ℕ) (b : ℕ)
    → column_on column (xs ++ b ∷ []) ≡ (if is_newline b then 1 else column_on column xs + 1)
column_last column [] b = refl
column_last column (x ∷ xs) b = column_last (if is_newline x then 1 else column + 1) xs b

pub column_more : (column : ℕ) (bytes : List ℕ) (i d : ℕ) → i < length bytes
    → column_on column (take (i + 1) bytes)
    ≡ (if is_newline (get_or bytes i d) then 1 else column_on column (take i bytes) + 1)
column_more column bytes i d lt =
    ap (column_on column) (take_more bytes i d lt) ∙ column_last column (take i bytes) (get_or bytes i d)

-- bytes that were put behind others, as far as they are a front
pub front_put : (room new bytes : List ℕ) (at count : ℕ) → count ≤ length bytes → at + length bytes ≤ length room
    → take (at + length bytes) new ≡ take at room ++ bytes → take (at + count) new ≡ take at room ++ take count bytes
front_put room new bytes at count few within put =
    let here : length (take at room) ≡ at = omega (arith, length-take-le at room (omega (arith, within))) in
    sym (take-take (at + count) (at + length bytes) new (omega (arith, few))) ∙ ap (take (at + count)) put
    ∙ ap (λ n. take (n + count) (take at room ++ bytes)) (sym here) ∙ take-append-add (take at room) bytes count

-- what stands before the end of a front
pub front_of : (room front tail : List ℕ) (count n : ℕ) → count ≤ length room → length tail ≡ n
    → take count room ≡ front ++ tail → take (count - n) room ≡ front
front_of room front tail count n within few is =
    let all : length (take count room) ≡ count = length-take-le count room within in
    let long : count - n ≡ length front + 0
    = omega (arith, all, ap length is, length-append front tail, few) in
    sym (take-take (count - n) count room (omega arith)) ∙ ap (take (count - n)) is
    ∙ ap (λ k. take k (front ++ tail)) long ∙ take-append-add front tail 0 ∙ append-nil front

-- there is a digit
pub some_digits : (digits : List ℕ) (count value : ℕ) → value < 2 ^ 64 → take count digits ≡ decimal value → 1 ≤ count
some_digits digits zero value small is = absurd (omega (arith, decimal_nonempty value small, ap length is))
some_digits digits (suc count) value small is = omega arith

-- the digits of a number that differs in the last one
pub last_digit : (digits : List ℕ) (count value other : ℕ) → count ≤ length digits → 1 ≤ count → 10 ≤ other
    → other / 10 ≡ value / 10 → value < 2 ^ 64 → other < 2 ^ 64 → take count digits ≡ decimal value
    → take count (slice_set digits (count - 1) (48 + other % 10)) ≡ decimal other
last_digit digits count value other within some more same small fits is =
    let step : decimal value ≡ decimal (value / 10) ++ (48 + value % 10) ∷ []
    = decimal_step value (omega (arith, more, same)) small in
    let before : take (count - 1) digits ≡ decimal (value / 10)
    = front_of digits (decimal (value / 10)) ((48 + value % 10) ∷ []) count 1 within refl (is ∙ step) in
    take-set_at digits (count - 1) count (48 + other % 10) (omega (arith, some)) (omega (arith, some, within))
    ∙ ap (λ xs. xs ++ (48 + other % 10) ∷ []) (before ∙ ap decimal (sym same)) ∙ sym (decimal_step other more fits)

pub tail_fits : (room front tail : List ℕ) (count n : ℕ) → count ≤ length room → length tail ≡ n
    → take count room ≡ front ++ tail → n ≤ count
tail_fits room front tail count n within few is =
    omega (arith, length-take-le count room within, ap length is, length-append front tail, few)

pub not_newline : (b : ℕ) → (b ≡ 10 → ⊥) → is_newline b ≡ false
not_newline b h = grind (arith, nat_tests, h)

-- the line and the column of a further offset
pub line_further : (text bytes : List ℕ) (here there before line : ℕ) → here ≤ there
    → bytes ≡ take (there - here) (drop here text) → before ≡ line_behind (take here text)
    → line ≡ before + count_by is_newline bytes → line ≡ line_behind (take there text)
line_further text bytes here there before line behind is at on = omega (
  arith,
  on,
  at,
  ap line_behind (prefix_further text here there behind),
  sum_by-append (λ b. cond (is_newline b) 1 0) (take here text) (take (there - here) (drop here text)),
  ap (count_by is_newline) is,
)

pub column_there : (text bytes : List ℕ) (here there before column : ℕ) → here ≤ there
    → bytes ≡ take (there - here) (drop here text) → before ≡ column_behind (take here text)
    → column ≡ column_on before bytes → column ≡ column_behind (take there text)
column_there text bytes here there before column behind is at on =
    on ∙ ap (column_on before) is ∙ ap (λ n. column_on n (take (there - here) (drop here text))) at
    ∙ sym (column_further (take here text) (take (there - here) (drop here text)))
    ∙ ap column_behind (sym (prefix_further text here there behind))
