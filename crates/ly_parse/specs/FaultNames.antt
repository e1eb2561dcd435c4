-- The numbers and the names of the errors of parsing.
use Rattle.std.specs.Prelude.{ℕ, List, Option, Some, None, codes}
use Rattle.ly_parse.specs.declared.fault.ParseFault.{ParseFault}
use Rattle.ly_parse.specs.declared.fault.ParseFault.TheVariants.{OutOfMemory, Over, FaultyTables}

-- an error's number; out of memory has none
abbrev pub parse_number : ParseFault → Option ℕ
parse_number FaultyTables = Some 90
parse_number Over = Some 91
parse_number OutOfMemory = None

-- an error's name
abbrev pub parse_name : ParseFault → List ℕ
parse_name FaultyTables = codes "TableFault"
parse_name Over = codes "Over"
parse_name OutOfMemory = codes "OutOfMemory"
