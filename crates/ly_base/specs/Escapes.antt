-- Escapes: what follows a backslash, and the byte that it denotes (POSIX, lex, "Escape Sequences in lex").
use Rattle.std.specs.Prelude.{◌≡◌, ◌≢◌, ℕ, ◌+◌, ◌-◌, ◌*◌, ◌<◌, ◌≤◌, List, [], ◌∷◌, ◌++◌, length}
use Rattle.std.specs.Prelude.{Bool, false, ◌||◌, ◌&&◌, nat_eq, nat_le, IsTrue, if◌then◌else◌}
use Rattle.ly_base.specs.Bytes.{letter_x, newline}

-- `0` to `7`
abbrev pub is_octal : ℕ → Bool
is_octal b = nat_le 48 b && nat_le b 55

-- `0` to `9`, `A` to `F`, `a` to `f`
abbrev pub is_hexadecimal : ℕ → Bool
is_hexadecimal b = (nat_le 48 b && nat_le b 57) || (nat_le 65 b && nat_le b 70) || (nat_le 97 b && nat_le b 102)

-- the value of a digit
abbrev pub digit : ℕ → ℕ
digit b = if nat_le b 57 then b - 48 else (if nat_le b 70 then b - 55 else b - 87)

-- the number that digits spell after a number that is read already
abbrev pub number_from : ℕ → ℕ → List ℕ → ℕ
number_from base n [] = n
number_from base n (d ∷ ds) = number_from base (n * base + digit d) ds

-- the number that digits spell
abbrev pub number : ℕ → List ℕ → ℕ
number base ds = number_from base 0 ds

-- all bytes pass the test
abbrev pub AllPass : (ℕ → Bool) → List ℕ → Type 0
AllPass test [] = Unit {0}
AllPass test (b ∷ bs) = IsTrue (test b) × AllPass test bs

-- the list doesn't start with a byte that passes the test
abbrev pub Stops : (ℕ → Bool) → List ℕ → Type 0
Stops test [] = Unit {0}
Stops test (b ∷ bs) = test b ≡ false

-- the byte that a letter after a backslash denotes: `a`, `b`, `f`, `n`, `r`, `t` and `v` are bytes 7, 8, 12, 10, 13, 9
-- and 11
abbrev pub meaning : ℕ → ℕ
meaning b = if nat_eq b 97 then 7 else
    (if nat_eq b 98 then 8 else
    (if nat_eq b 102 then 12 else
    (if nat_eq b 110 then 10 else
    (if nat_eq b 114 then 13 else
    (if nat_eq b 116 then 9 else
    (if nat_eq b 118 then 11 else b))))))

-- The text after a backslash begins with an escape for the byte b, then comes the rest: one to three octal digits, as
-- many as there are; `x` with all the hexadecimal digits that follow; or one byte.
pub data Escape : List ℕ → ℕ → List ℕ → Type 0 where
  octal : (ds rest : List ℕ) → AllPass is_octal ds → 1 ≤ length ds → length ds ≤ 3
      → (length ds < 3 → Stops is_octal rest) → number 8 ds < 256 → Escape (ds ++ rest) (number 8 ds) rest
  hexadecimal : (ds rest : List ℕ) → AllPass is_hexadecimal ds → 1 ≤ length ds → Stops is_hexadecimal rest
      → number 16 ds < 256 → Escape (letter_x ∷ (ds ++ rest)) (number 16 ds) rest
  bare_x : (rest : List ℕ) → Stops is_hexadecimal rest → Escape (letter_x ∷ rest) letter_x rest
  letter : (b : ℕ) (rest : List ℕ) → is_octal b ≡ false → b ≢ letter_x → b ≢ newline
      → Escape (b ∷ rest) (meaning b) rest
