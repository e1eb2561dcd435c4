-- The errors of driving: their numbers and names, their relation to the errors of the parts, and their meaning for the
-- devices.
use Rattle.std.specs.Prelude.{ℕ, List, None, Option}
use Rattle.ly_drive.specs.declared.fault.DriveFault.{DriveFault}
use Rattle.ly_drive.specs.declared.fault.DriveFault.TheVariants.{Tables, Text}
use Rattle.ly_feed.specs.TextFault as text
use Rattle.ly_feed.specs.declared.text_fault.TextFault.TheVariants as answering
use Rattle.ly_tables.specs.FaultNames.{table_name, table_number}
use Rattle.ly_tables.specs.declared.fault.TableFault.{TableFault}
use Rattle.ly_tables.specs.declared.fault.TableFault.TheVariants as file

-- an error's number; a device that fails and out of memory have none
abbrev pub drive_number : DriveFault → Option ℕ
drive_number (Tables fault) = table_number fault
drive_number (Text fault) = text.text_fault_number fault

-- an error's name
abbrev pub drive_name : DriveFault → List ℕ
drive_name (Tables fault) = table_name fault
drive_name (Text fault) = text.text_fault_name fault

-- the error for an error of reading a table file
abbrev pub fault_of_tables : TableFault → DriveFault
fault_of_tables file.BadMagic = Tables file.BadMagic
fault_of_tables file.BadVersion = Tables file.BadVersion
fault_of_tables file.Truncated = Tables file.Truncated
fault_of_tables file.Trailing = Tables file.Trailing
fault_of_tables (file.OutOfRange section) = Tables (file.OutOfRange section)
fault_of_tables file.Endless = Tables file.Endless
fault_of_tables file.OutOfMemory = Text answering.OutOfMemory

-- the table file is rejected
abbrev pub IsOfFile : DriveFault → Type 0
IsOfFile (Tables fault) = Unit {0}
IsOfFile (Text fault) = ⊥

-- the number of bytes written before the write that failed, if one did
abbrev pub failed_write : DriveFault → Option ℕ
failed_write (Tables fault) = None
failed_write (Text fault) = text.failed_write fault
