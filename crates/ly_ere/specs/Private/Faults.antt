-- The faults of the reader's parts as those of the parts above, and where they stand.
use Rattle.std.specs.Prelude.{ℕ, ◌-◌, ◌≤◌, List, length}
use Rattle.ly_ere.specs.declared.fault.EreFault.{EreFault}
use Rattle.ly_ere.specs.declared.fault.EreFault.TheVariants as ere
use Rattle.ly_ere.specs.declared.fault.EreFaultKind.{EreFaultKind}
use Rattle.ly_ere.specs.declared.fault.EreFaultKind.TheVariants as kind
use Rattle.ly_ere.specs.declared.fault.ReadFault.{ReadFault}
use Rattle.ly_ere.specs.declared.fault.ReadFault.TheVariants.{Syntax, OutOfMemory}
use Rattle.ly_ere.specs.declared.fault.SyntaxFault.{SyntaxFault}
use Rattle.ly_ere.specs.declared.fault.SyntaxKind.{SyntaxKind}
use Rattle.ly_ere.specs.declared.fault.SyntaxKind.TheVariants.{Empty, UnclosedQuote, UnclosedBracket, UnclosedGroup}
use Rattle.ly_ere.specs.declared.fault.SyntaxKind.TheVariants.{StrayOperator, BadRange, EmptySet, UnknownClass}
use Rattle.ly_ere.specs.declared.fault.SyntaxKind.TheVariants.{BadInterval, EscapeTooLarge, UnknownName}
use Rattle.ly_ere.specs.declared.fault.SyntaxKind.TheVariants.{AnchorInside, TrailingTwice}

-- what is wrong with a text as what is wrong with its expression
abbrev pub kind_of_syntax : SyntaxKind → EreFaultKind
kind_of_syntax Empty = kind.Empty
kind_of_syntax UnclosedQuote = kind.UnclosedQuote
kind_of_syntax UnclosedBracket = kind.UnclosedBracket
kind_of_syntax UnclosedGroup = kind.UnclosedGroup
kind_of_syntax StrayOperator = kind.StrayOperator
kind_of_syntax BadRange = kind.BadRange
kind_of_syntax EmptySet = kind.EmptySet
kind_of_syntax UnknownClass = kind.UnknownClass
kind_of_syntax BadInterval = kind.BadInterval
kind_of_syntax EscapeTooLarge = kind.EscapeTooLarge
kind_of_syntax UnknownName = kind.UnknownName
kind_of_syntax AnchorInside = kind.AnchorInside
kind_of_syntax TrailingTwice = kind.TrailingTwice

-- a fault of reading as one of the expression whose text this is
abbrev pub fault_in : List ℕ → ReadFault → EreFault
fault_in text (Syntax fault) = ere.Refused (kind_of_syntax fault.kind) (length text - fault.left)
fault_in text OutOfMemory = ere.OutOfMemory

-- the byte at fault is one of the text, or its end
abbrev pub IsLeftIn : List ℕ → SyntaxFault → Type 0
IsLeftIn text fault = fault.left ≤ length text

-- the same where no growth was refused
abbrev pub IsReadIn : List ℕ → ReadFault → Type 0
IsReadIn text (Syntax fault) = fault.left ≤ length text
IsReadIn text OutOfMemory = Unit {0}
