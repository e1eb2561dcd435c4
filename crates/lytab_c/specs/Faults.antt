-- What an error of a table file, or of its tables on a text, implies.
use Rattle.std.specs.Prelude.{◌≢◌, ℕ, List}
use Rattle.ly_drive.specs.Answering.{IsDriven}
use Rattle.ly_drive.specs.declared.fault.DriveFault.{DriveFault}
use Rattle.ly_drive.specs.declared.fault.DriveFault.TheVariants.{Tables, Text}
use Rattle.ly_feed.specs.TableAnswer.{IsVerdict}
use Rattle.ly_feed.specs.Verdict.{faulty}
use Rattle.ly_feed.specs.declared.text_fault.TextFault.TheVariants.{FaultyTables, OutOfMemory, Read, TooLong, Write}
use Rattle.ly_tables.specs.Refusal.{IsRefusedAs}
use Rattle.ly_tables.specs.TableSet.{TableSet}
use Rattle.ly_tables.specs.declared.fault.TableFault.{TableFault}
use Rattle.ly_tables.specs.declared.fault.TableFault.TheVariants.{OutOfRange}
use Rattle.ly_tables.specs.declared.fault.TableFault.TheVariants as file

-- The table file is rejected with this error, or its set fails on the text. Out of memory implies nothing. A text in
-- memory never has a read error and is never too long.
abbrev pub IsFaultOn : List ℕ → List ℕ → DriveFault → Type 0
IsFaultOn tables text (Tables fault) = (fault ≢ file.OutOfMemory) × IsRefusedAs tables fault
IsFaultOn tables text (Text FaultyTables) = (s : TableSet) × IsDriven tables s × IsVerdict s text faulty
IsFaultOn tables text (Text TooLong) = ⊥
IsFaultOn tables text (Text Read) = ⊥
IsFaultOn tables text (Text (Write written)) = Unit {0}
IsFaultOn tables text (Text OutOfMemory) = Unit {0}

-- the section of the table file that is out of range, or 0
abbrev pub section_of : TableFault → ℕ
section_of (OutOfRange section) = section
section_of _ = 0

-- the same for an error of driving
abbrev pub drive_section : DriveFault → ℕ
drive_section (Tables fault) = section_of fault
drive_section (Text fault) = 0
