-- The errors of expressions: their numbers, names and offsets.
use Rattle.std.specs.Prelude.{ℕ, ◌≤◌, List, Option, Some, None, codes}
use Rattle.ly_ere.specs.declared.fault.EreFault.{EreFault}
use Rattle.ly_ere.specs.declared.fault.EreFault.TheVariants.{Refused, OutOfMemory}
use Rattle.ly_ere.specs.declared.fault.EreFaultKind.{EreFaultKind}
use Rattle.ly_ere.specs.declared.fault.EreFaultKind.TheVariants.{Empty, UnclosedQuote, UnclosedBracket, UnclosedGroup}
use Rattle.ly_ere.specs.declared.fault.EreFaultKind.TheVariants.{StrayOperator, BadRange, EmptySet, UnknownClass}
use Rattle.ly_ere.specs.declared.fault.EreFaultKind.TheVariants.{BadInterval, EscapeTooLarge, UnknownName, NameCycle}
use Rattle.ly_ere.specs.declared.fault.EreFaultKind.TheVariants.{AnchorInside, TrailingTwice, TrailingBothVary}
use Rattle.ly_ere.specs.declared.fault.EreFaultKind.TheVariants.{TrailingHeadEmpty, TooHeavy}

-- the number of a kind of error
abbrev pub kind_number : EreFaultKind → ℕ
kind_number Empty = 1
kind_number UnclosedQuote = 2
kind_number UnclosedBracket = 3
kind_number UnclosedGroup = 4
kind_number StrayOperator = 5
kind_number BadRange = 6
kind_number EmptySet = 7
kind_number UnknownClass = 8
kind_number BadInterval = 9
kind_number EscapeTooLarge = 10
kind_number UnknownName = 11
kind_number NameCycle = 12
kind_number AnchorInside = 13
kind_number TrailingTwice = 14
kind_number TrailingBothVary = 15
kind_number TrailingHeadEmpty = 16
kind_number TooHeavy = 17

-- the name of a kind of error
abbrev pub kind_name : EreFaultKind → List ℕ
kind_name Empty = codes "Empty"
kind_name UnclosedQuote = codes "UnclosedQuote"
kind_name UnclosedBracket = codes "UnclosedBracket"
kind_name UnclosedGroup = codes "UnclosedGroup"
kind_name StrayOperator = codes "StrayOperator"
kind_name BadRange = codes "BadRange"
kind_name EmptySet = codes "EmptySet"
kind_name UnknownClass = codes "UnknownClass"
kind_name BadInterval = codes "BadInterval"
kind_name EscapeTooLarge = codes "EscapeTooLarge"
kind_name UnknownName = codes "UnknownName"
kind_name NameCycle = codes "NameCycle"
kind_name AnchorInside = codes "AnchorInside"
kind_name TrailingTwice = codes "TrailingTwice"
kind_name TrailingBothVary = codes "TrailingBothVary"
kind_name TrailingHeadEmpty = codes "TrailingHeadEmpty"
kind_name TooHeavy = codes "TooHeavy"

-- the error number; OutOfMemory has none
abbrev pub ere_number : EreFault → Option ℕ
ere_number (Refused kind offset) = Some (kind_number kind)
ere_number OutOfMemory = None

-- the name of an error
abbrev pub ere_name : EreFault → List ℕ
ere_name (Refused kind offset) = kind_name kind
ere_name OutOfMemory = codes "OutOfMemory"

-- the kind of an error; OutOfMemory has none
abbrev pub ere_kind : EreFault → Option EreFaultKind
ere_kind (Refused kind offset) = Some kind
ere_kind OutOfMemory = None

-- the error is at this offset or before
abbrev pub IsAtMost : ℕ → EreFault → Type 0
IsAtMost n (Refused kind offset) = offset ≤ n
IsAtMost n OutOfMemory = Unit {0}
