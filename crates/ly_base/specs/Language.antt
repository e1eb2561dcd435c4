-- The bytes of whitespace and names (POSIX, XCU lex and yacc).
use Rattle.std.specs.Prelude.{◌≡◌, ◌≢◌, ◌&&◌, ◌||◌, ℕ, List, [], ◌∷◌, ◌++◌, Bool, IsTrue, nat_eq, nat_le}
use Rattle.ly_base.specs.Blank.{is_blank}
use Rattle.ly_base.specs.Escapes.{AllPass, Stops}
use Rattle.ly_base.specs.declared.language.Language.{Language}
use Rattle.ly_base.specs.declared.language.Language.TheVariants.{Lex, Yacc}

-- a blank; in yacc files also a newline
abbrev pub is_space : Language → ℕ → Bool
is_space Lex b = is_blank b
is_space Yacc b = is_blank b || nat_eq b 10

-- `A` to `Z`, `a` to `z`, `_`
abbrev pub is_letter : ℕ → Bool
is_letter b = (nat_le 65 b && nat_le b 90) || (nat_le 97 b && nat_le b 122) || nat_eq b 95

-- `0` to `9`
abbrev pub is_decimal : ℕ → Bool
is_decimal b = nat_le 48 b && nat_le b 57

-- a letter or `_`; in yacc files `.` too
abbrev pub starts_name : Language → ℕ → Bool
starts_name Lex b = is_letter b
starts_name Yacc b = is_letter b || nat_eq b 46

-- one of these or a digit
abbrev pub continues_name : Language → ℕ → Bool
continues_name l b = starts_name l b || is_decimal b

-- a byte that starts a name, then bytes that continue it
abbrev pub IsName : Language → List ℕ → Type 0
IsName l [] = ⊥
IsName l (b ∷ bs) = IsTrue (starts_name l b) × AllPass (continues_name l) bs

-- The text is a name and then the rest. A name takes all bytes that can belong to it.
abbrev pub NameBefore : Language → List ℕ → List ℕ → List ℕ → Type 0
NameBefore l text n rest = IsName l n × Stops (continues_name l) rest × (text ≡ n ++ rest)

-- The text is decimal digits, one or more and as many as there are, and then the rest.
abbrev pub DigitsBefore : List ℕ → List ℕ → List ℕ → Type 0
DigitsBefore text ds rest = AllPass is_decimal ds × (ds ≢ []) × Stops is_decimal rest × (text ≡ ds ++ rest)
