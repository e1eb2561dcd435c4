-- The errors of parsing a text: their numbers and names, and their meaning for the writer.
use Rattle.std.specs.Prelude.{ℕ, List, Option, Some, None, codes}
use Rattle.ly_feed.specs.declared.text_fault.TextFault.{TextFault}
use Rattle.ly_feed.specs.declared.text_fault.TextFault.TheVariants.{FaultyTables, OutOfMemory, Read, TooLong, Write}

-- an error's number; a device that fails and out of memory have none
abbrev pub text_fault_number : TextFault → Option ℕ
text_fault_number FaultyTables = Some 90
text_fault_number TooLong = Some 92
text_fault_number Read = None
text_fault_number (Write written) = None
text_fault_number OutOfMemory = None

-- an error's name
abbrev pub text_fault_name : TextFault → List ℕ
text_fault_name FaultyTables = codes "TableFault"
text_fault_name TooLong = codes "TooLong"
text_fault_name Read = codes "Read"
text_fault_name (Write written) = codes "Write"
text_fault_name OutOfMemory = codes "OutOfMemory"

-- an error of writing a result
abbrev pub IsOfWriting : TextFault → Type 0
IsOfWriting (Write written) = Unit {0}
IsOfWriting OutOfMemory = Unit {0}
IsOfWriting _ = ⊥

-- an error at the end of a text: the tables are faulty, or the result wasn't written
abbrev pub IsOfEnding : TextFault → Type 0
IsOfEnding FaultyTables = Unit {0}
IsOfEnding (Write written) = Unit {0}
IsOfEnding OutOfMemory = Unit {0}
IsOfEnding _ = ⊥

-- the number of bytes written before the write that failed, if one did
abbrev pub failed_write : TextFault → Option ℕ
failed_write (Write written) = Some written
failed_write _ = None
