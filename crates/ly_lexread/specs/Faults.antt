-- The errors of a lex file: their numbers, names and offsets.
use Rattle.std.specs.Prelude.{◌≡◌, ◌≤◌, ℕ, List, Option, Some, None, codes}
use Rattle.ly_ere.specs.Faults as ere
use Rattle.ly_ere.specs.declared.fault.EreFaultKind.TheVariants as ere_kind
use Rattle.ly_lexread.specs.declared.fault.LexFault.{LexFault}
use Rattle.ly_lexread.specs.declared.fault.LexFault.TheVariants.{Refused, OutOfMemory}
use Rattle.ly_lexread.specs.declared.fault.LexFaultKind.{LexFaultKind}
use Rattle.ly_lexread.specs.declared.fault.LexFaultKind.TheVariants.{NoRulesMark, BadDefinition, UnknownCondition}
use Rattle.ly_lexread.specs.declared.fault.LexFaultKind.TheVariants.{ConditionTwice, BadAction, BarAtEnd, Pattern}

-- the number that a kind of error is printed with; that of a rejected pattern is the pattern's own
abbrev pub kind_number : LexFaultKind → ℕ
kind_number NoRulesMark = 20
kind_number BadDefinition = 21
kind_number UnknownCondition = 22
kind_number ConditionTwice = 23
kind_number BadAction = 24
kind_number BarAtEnd = 25
kind_number (Pattern kind) = ere.kind_number kind

-- the name that a kind of error is printed with; that of a rejected pattern is the pattern's own
abbrev pub kind_name : LexFaultKind → List ℕ
kind_name NoRulesMark = codes "NoRulesMark"
kind_name BadDefinition = codes "BadDefinition"
kind_name UnknownCondition = codes "UnknownCondition"
kind_name ConditionTwice = codes "ConditionTwice"
kind_name BadAction = codes "BadAction"
kind_name BarAtEnd = codes "BarAtEnd"
kind_name (Pattern kind) = ere.kind_name kind

-- the number that an error is printed with; OutOfMemory has none
abbrev pub lex_number : LexFault → Option ℕ
lex_number (Refused kind offset) = Some (kind_number kind)
lex_number OutOfMemory = None

-- the name that an error is printed with
abbrev pub lex_name : LexFault → List ℕ
lex_name (Refused kind offset) = kind_name kind
lex_name OutOfMemory = codes "OutOfMemory"

-- a pattern or a definition is too heavy
abbrev pub IsTooHeavyKind : LexFaultKind → Type 0
IsTooHeavyKind (Pattern kind) = kind ≡ ere_kind.TooHeavy
IsTooHeavyKind _ = ⊥

-- the error is that a pattern or a definition is too heavy
abbrev pub IsTooHeavy : LexFault → Type 0
IsTooHeavy (Refused kind offset) = IsTooHeavyKind kind
IsTooHeavy OutOfMemory = ⊥

-- the error is at this offset or before
abbrev pub IsAtMost : ℕ → LexFault → Type 0
IsAtMost n (Refused kind offset) = offset ≤ n
IsAtMost n OutOfMemory = Unit {0}
