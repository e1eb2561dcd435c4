-- What `parse` reads as a count.
use Rattle.std.proofs.Common.{◌≡◌, ◌<◌, ◌^◌, Bool, List, None, Some, ap, false, length, nat_lt, refl, true, ℕ}
use Rattle.std.specs.Str.{all_ascii_digits}
use Rattle.std.specs.Str.Parse.{IsNumeral, digits_value, without_leading_plus}
use Rattle.std.proofs.lemmas.Bool.{lt-ltb, ltb-true}
use Rattle.std.proofs.lemmas.Str.Parse.{IsNumeralModel, numerals_by_value, tells_all_ascii_digits}
use Rattle.ly_cli.specs.CommandLine.{count_by, number_of_digits}

own : IsNumeralModel (λ ds. all_ascii_digits ds ≡ true) (digits_value 10)
own = numerals_by_value _ tells_all_ascii_digits

-- the digits of a word are a numeral of the machine's words
abbrev pub IsNumber : List ℕ → Type 0
IsNumber word = IsNumeral 10 (without_leading_plus word) × (digits_value 10 (without_leading_plus word) < 2 ^ 64)

pub count_read : (word : List ℕ) (count : ℕ) → IsNumber word × (count ≡ digits_value 10 (without_leading_plus word))
    → Some count ≡ count_by word
count_read word count h =
    let digits = without_leading_plus word in
    rw (own.from digits h.0.0.1) (rw (lt-ltb 0 (length digits) h.0.0.0)
    (rw (lt-ltb (digits_value 10 digits) (2 ^ 64) h.0.1) (ap (λ n. Some n) h.1)))

pub none_read : (word : List ℕ) → ¬ (IsNumber word) → None ≡ count_by word
none_read word h = by (all_ascii_digits digits) (nat_lt 0 (length digits)) (nat_lt (digits_value 10 digits) (2 ^ 64))
    refl refl refl
  where
    digits : List ℕ
    digits = without_leading_plus word

    by : (a b c : Bool) → all_ascii_digits digits ≡ a → nat_lt 0 (length digits) ≡ b
        → nat_lt (digits_value 10 digits) (2 ^ 64) ≡ c → None ≡ count_by word
    by true true true p q r =
        absurd (h ((ltb-true _ _ q, own.to digits p), ltb-true _ _ r))
    by false b c p q r = rw p refl
    by true false c p q r = rw p (rw q refl)
    by true true false p q r = rw p (rw q (rw r refl))
