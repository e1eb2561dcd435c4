-- Which device a failure belongs to, and its exit status.
use Rattle.std.specs.Prelude.{◌≡◌, ℕ}
use Rattle.ly_drive.specs.declared.fault.DriveFault.{DriveFault}
use Rattle.ly_drive.specs.declared.fault.DriveFault.TheVariants as drive
use Rattle.ly_feed.specs.declared.text_fault.TextFault.{TextFault}
use Rattle.ly_feed.specs.declared.text_fault.TextFault.TheVariants as text
use Rattle.ly_generate.specs.declared.gen_fault.GenFault.{GenFault}
use Rattle.ly_generate.specs.declared.gen_fault.GenFault.TheVariants as gen
use Rattle.ly_tables.specs.declared.fault.TableFault.{TableFault}
use Rattle.ly_tables.specs.declared.fault.TableFault.TheVariants as file
use Rattle.lytab.specs.declared.failure.Failure.{Failure}
use Rattle.lytab.specs.declared.failure.Failure.TheVariants.{CannotRead, CannotWrite, FaultyTables, OutOfMemory}
use Rattle.lytab.specs.declared.failure.Failure.TheVariants.{Refused, Tables, TooLong, Unexpected, Unreadable}
use Rattle.ly_files.specs.declared.file_fault.FileFault.{FileFault}
use Rattle.ly_files.specs.declared.file_fault.FileFault.TheVariants as of_file

-- the failure for a file that isn't read or written
abbrev pub failure_of_file : FileFault → Failure
failure_of_file (of_file.CannotRead path reason) = CannotRead path
failure_of_file (of_file.CannotWrite path reason) = CannotWrite path
failure_of_file of_file.OutOfMemory = OutOfMemory

-- a file, or standard input, can't be read
abbrev pub IsOfReader : Failure → Type 0
IsOfReader (CannotRead path) = Unit {0}
IsOfReader _ = ⊥

-- a file, or standard output, can't be written
abbrev pub IsOfWriter : Failure → Type 0
IsOfWriter (CannotWrite path) = Unit {0}
IsOfWriter _ = ⊥

-- the failure for an error of parsing a text
abbrev pub IsOfAnswering : TextFault → Failure → Type 0
IsOfAnswering text.FaultyTables f = f ≡ FaultyTables
IsOfAnswering text.TooLong f = f ≡ TooLong
IsOfAnswering text.Read f = IsOfReader f
IsOfAnswering (text.Write written) f = IsOfWriter f
IsOfAnswering text.OutOfMemory f = f ≡ OutOfMemory

-- the failure for an error of parsing a text with a table file
abbrev pub IsOfDriving : DriveFault → Failure → Type 0
IsOfDriving (drive.Tables fault) f = f ≡ Tables fault
IsOfDriving (drive.Text fault) f = IsOfAnswering fault f

-- a read or write error, or out of memory
abbrev pub IsOfDevice : Failure → Type 0
IsOfDevice (CannotRead path) = Unit {0}
IsOfDevice (Unreadable path reason) = Unit {0}
IsOfDevice (CannotWrite path) = Unit {0}
IsOfDevice OutOfMemory = Unit {0}
IsOfDevice _ = ⊥

-- if a lex file and a yacc file aren't accepted: 2, or 3 if memory runs out
abbrev pub refusal_status : GenFault → ℕ
refusal_status gen.OutOfMemory = 3
refusal_status _ = 2

-- if a table file isn't accepted: 2, or 3 if memory runs out
abbrev pub table_fault_status : TableFault → ℕ
table_fault_status file.OutOfMemory = 3
table_fault_status _ = 2

-- 1 if the text is too long or there are other conflicts than expected, 2 if a file is rejected, 3 for a read or write
-- error or if memory runs out
abbrev pub failure_status : Failure → ℕ
failure_status (CannotRead path) = 3
failure_status (Unreadable path reason) = 3
failure_status (CannotWrite path) = 3
failure_status (Refused fault line) = refusal_status fault
failure_status (Unexpected counts expected) = 1
failure_status (Tables fault) = table_fault_status fault
failure_status FaultyTables = 2
failure_status TooLong = 1
failure_status OutOfMemory = 3
