-- The numbers and the names of the errors of reading and of writing table files.
use Rattle.std.specs.Prelude.{ℕ, List, Option, Some, None, codes}
use Rattle.ly_tables.specs.declared.fault.TableFault.{TableFault}
use Rattle.ly_tables.specs.declared.format_fault.FormatFault.{FormatFault}
use Rattle.ly_tables.specs.declared.format_fault.FormatFault.TheVariants as format
use Rattle.ly_tables.specs.declared.fault.TableFault.TheVariants.{BadMagic, BadVersion, Endless, OutOfMemory}
use Rattle.ly_tables.specs.declared.fault.TableFault.TheVariants.{OutOfRange, Trailing, Truncated}

-- an error's number; out of memory has none
abbrev pub table_number : TableFault → Option ℕ
table_number BadMagic = Some 80
table_number BadVersion = Some 81
table_number Truncated = Some 82
table_number Trailing = Some 83
table_number (OutOfRange section) = Some 84
table_number Endless = Some 85
table_number OutOfMemory = None

-- an error's name
abbrev pub table_name : TableFault → List ℕ
table_name BadMagic = codes "BadMagic"
table_name BadVersion = codes "BadVersion"
table_name Truncated = codes "Truncated"
table_name Trailing = codes "Trailing"
table_name (OutOfRange section) = codes "OutOfRange"
table_name Endless = codes "Endless"
table_name OutOfMemory = codes "OutOfMemory"

-- an error's number; out of memory has none
abbrev pub format_number : FormatFault → Option ℕ
format_number format.TooLargeForVersion = Some 86
format_number format.OutOfMemory = None

-- an error's name
abbrev pub format_name : FormatFault → List ℕ
format_name format.TooLargeForVersion = codes "TooLargeForVersion"
format_name format.OutOfMemory = codes "OutOfMemory"
