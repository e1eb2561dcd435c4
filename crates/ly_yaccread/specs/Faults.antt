-- The errors of a yacc file: their numbers, names and offsets.
use Rattle.std.specs.Prelude.{◌≡◌, ◌⊎◌, ◌-◌, ◌≤◌, ℕ, List, Option, Some, None, Contains, codes, length}
use Rattle.ly_yaccread.specs.Words.{Word, AreWordsOf}
use Rattle.ly_yaccread.specs.declared.fault.YaccFault.{YaccFault}
use Rattle.ly_yaccread.specs.declared.fault.YaccFault.TheVariants.{Refused, OutOfMemory}
use Rattle.ly_yaccread.specs.declared.fault.YaccFaultKind.{YaccFaultKind}
use Rattle.ly_yaccread.specs.declared.fault.YaccFaultKind.TheVariants.{NoRulesMark, BadDeclaration, BadRule}
use Rattle.ly_yaccread.specs.declared.fault.YaccFaultKind.TheVariants.{BadLiteral, BadAction, DollarRange}
use Rattle.ly_yaccread.specs.declared.fault.YaccFaultKind.TheVariants.{DollarTwice, ErrorToken, MidRuleAction}
use Rattle.ly_yaccread.specs.declared.fault.YaccFaultKind.TheVariants.{UnclosedComment}

-- the number that an error is printed with
abbrev pub kind_number : YaccFaultKind → ℕ
kind_number NoRulesMark = 30
kind_number BadDeclaration = 31
kind_number BadRule = 32
kind_number BadLiteral = 33
kind_number BadAction = 34
kind_number DollarRange = 35
kind_number DollarTwice = 36
kind_number ErrorToken = 37
kind_number MidRuleAction = 38
kind_number UnclosedComment = 39

-- out of memory has none
abbrev pub yacc_number : YaccFault → Option ℕ
yacc_number (Refused kind offset) = Some (kind_number kind)
yacc_number OutOfMemory = None

-- the name that an error is printed with
abbrev pub kind_name : YaccFaultKind → List ℕ
kind_name NoRulesMark = codes "NoRulesMark"
kind_name BadDeclaration = codes "BadDeclaration"
kind_name BadRule = codes "BadRule"
kind_name BadLiteral = codes "BadLiteral"
kind_name BadAction = codes "BadAction"
kind_name DollarRange = codes "DollarRange"
kind_name DollarTwice = codes "DollarTwice"
kind_name ErrorToken = codes "ErrorToken"
kind_name MidRuleAction = codes "MidRuleAction"
kind_name UnclosedComment = codes "UnclosedComment"

-- out of memory has a name too
abbrev pub yacc_name : YaccFault → List ℕ
yacc_name (Refused kind offset) = kind_name kind
yacc_name OutOfMemory = codes "OutOfMemory"

-- A word of the file begins at this offset.
abbrev pub IsWordOffset : List ℕ → ℕ → Type 0
IsWordOffset bytes offset = (ws : List Word) × (offsets : List ℕ) × AreWordsOf bytes ws offsets
    × Contains offsets offset

-- The offset of the error is that of a word of the file, or of its last byte, or 0 if the file is empty.
abbrev pub StandsAt : List ℕ → YaccFault → Type 0
StandsAt bytes (Refused kind offset) = IsWordOffset bytes offset ⊎ (offset ≡ length bytes - 1)
StandsAt bytes OutOfMemory = Unit {0}

-- its offset is within the file
abbrev pub IsWithin : List ℕ → YaccFault → Type 0
IsWithin bytes (Refused kind offset) = offset ≤ length bytes
IsWithin bytes OutOfMemory = Unit {0}
