-- The start conditions of a lex file (POSIX, XCU lex, "Definitions in lex").
use Rattle.std.specs.Prelude.{ℕ, ◌+◌, List, [], ◌∷◌, Bool, false, position, codes, Option, if◌then◌else◌}
use Rattle.std.specs.Str.{bytes_eq}

-- A condition: its name, whether it is exclusive, and the number of bytes of the file from its declared name on. Its
-- number is its index in the list.
abbrev pub Condition : Type 0
Condition = List ℕ × (Bool × ℕ)

-- the initial condition, which is inclusive, the first of all, and declared nowhere
abbrev pub initial : Condition
initial = (codes "INITIAL", (false, 0))

-- the number of the condition with this name
abbrev pub condition_of : List Condition → List ℕ → Option ℕ
condition_of cs n = position (λ c. bytes_eq n c.0) cs

-- the numbers of the inclusive conditions, if the first condition has this number
abbrev pub inclusive_from : ℕ → List Condition → List ℕ
inclusive_from n [] = []
inclusive_from n (c ∷ cs) = if c.1.0 then inclusive_from (n + 1) cs else n ∷ inclusive_from (n + 1) cs

-- the numbers of the inclusive conditions, ascending
abbrev pub inclusive : List Condition → List ℕ
inclusive cs = inclusive_from 0 cs
