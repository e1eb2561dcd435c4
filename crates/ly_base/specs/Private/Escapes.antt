-- How a reader finds an escape: by the longest run of digits, and else by the byte.
use Rattle.std.specs.Prelude.{ℕ, zero, suc, List, [], ◌∷◌, length, drop, Option, Some, None, Bool, true, false}
use Rattle.std.specs.Prelude.{nat_eq, nat_lt, if◌then◌else◌}
use Rattle.ly_base.specs.Escapes.{digit, is_hexadecimal, is_octal, meaning, number}
use Rattle.ly_base.specs.declared.escapes.Radix.{Radix}
use Rattle.ly_base.specs.declared.escapes.Radix.TheVariants.{Octal, Hexadecimal}

-- the first n bytes of a text that pass a test one after another
abbrev pub digits : (ℕ → Bool) → ℕ → List ℕ → List ℕ
digits test zero t = []
digits test (suc n) [] = []
digits test (suc n) (b ∷ t) = if test b then b ∷ digits test n t else []

abbrev pub byte_when : Bool → ℕ → List ℕ → Option (ℕ × List ℕ)
byte_when true n rest = Some (n, rest)
byte_when false n rest = None

abbrev pub byte_or_none : ℕ → List ℕ → Option (ℕ × List ℕ)
byte_or_none n rest = byte_when (nat_lt n 256) n rest

abbrev pub by_hexadecimal : List ℕ → List ℕ → Option (ℕ × List ℕ)
by_hexadecimal [] t = Some (120, t)
by_hexadecimal (d ∷ ds) t = byte_or_none (number 16 (d ∷ ds)) (drop (length (d ∷ ds)) t)

abbrev pub letter_when : Bool → Bool → ℕ → List ℕ → Option (ℕ × List ℕ)
letter_when true _ b t = None
letter_when false true b t = by_hexadecimal (digits is_hexadecimal (length t) t) t
letter_when false false b t = Some (meaning b, t)

abbrev pub by_letter : List ℕ → Option (ℕ × List ℕ)
by_letter [] = None
by_letter (b ∷ t) = letter_when (nat_eq b 10) (nat_eq b 120) b t

abbrev pub by_octal : List ℕ → List ℕ → Option (ℕ × List ℕ)
by_octal [] t = by_letter t
by_octal (d ∷ ds) t = byte_or_none (number 8 (d ∷ ds)) (drop (length (d ∷ ds)) t)

-- the byte that stands behind a backslash, and the rest, as a reader finds it
abbrev pub found_escape : List ℕ → Option (ℕ × List ℕ)
found_escape t = by_octal (digits is_octal 3 t) t

-- which bytes are digits
abbrev pub test_of : Radix → ℕ → Bool
test_of Octal b = is_octal b
test_of Hexadecimal b = is_hexadecimal b

abbrev pub base_of : Radix → ℕ
base_of Octal = 8
base_of Hexadecimal = 16

-- what a byte counts, if it is a digit
abbrev pub counts : Bool → ℕ → Option ℕ
counts true b = Some (digit b)
counts false b = None
