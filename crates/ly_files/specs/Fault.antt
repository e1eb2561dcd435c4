-- Which errors reading and writing a file return.
use Rattle.std.specs.Prelude.{◌≡◌, ℕ, List}
use Rattle.ly_files.specs.declared.file_fault.FileFault.{FileFault}
use Rattle.ly_files.specs.declared.file_fault.FileFault.TheVariants.{CannotRead, CannotWrite, OutOfMemory}

-- the file with this path can't be read, or memory ran out
abbrev pub IsReadFault : List ℕ → FileFault → Type 0
IsReadFault path (CannotRead p reason) = p.now ≡ path
IsReadFault path (CannotWrite p reason) = ⊥
IsReadFault path OutOfMemory = Unit {0}

-- the file with this path can't be written, or memory ran out
abbrev pub IsWriteFault : List ℕ → FileFault → Type 0
IsWriteFault path (CannotRead p reason) = ⊥
IsWriteFault path (CannotWrite p reason) = p.now ≡ path
IsWriteFault path OutOfMemory = Unit {0}
