-- How the creation of a file and the writing of a file end.
use Rattle.std.specs.Prelude.{◌≡◌, ◌≢◌, ℕ, Bool, List, Option, Result, Some, IfErr, OnErr, OnOk, true}
use Rattle.ly_files.specs.Fault.{IsWriteFault}
use Rattle.ly_files.specs.Folder.{Changed, Files, IsBegun, IsSet, IsSpared, IsSparedOrSet}
use Rattle.ly_files.specs.declared.create_fault.CreateFault.{CreateFault}
use Rattle.ly_files.specs.declared.create_fault.CreateFault.TheVariants.{Exists, NotCreated, NotWritten, OtherRights}
use Rattle.ly_files.specs.declared.file_fault.FileFault.{FileFault}

-- what an error says of the files: they are unchanged, or the file was begun
abbrev pub IsCreatedOrNot : List ℕ → Option Files → Option Files → CreateFault → Type 0
IsCreatedOrNot path before after Exists = after ≡ before
IsCreatedOrNot path before after NotCreated = after ≡ before
IsCreatedOrNot path before after OtherRights = Changed (IsBegun path) before after
IsCreatedOrNot path before after (NotWritten reason) = Changed (IsBegun path) before after

-- the folder takes a new file with the rights of an older one
abbrev pub TakesFile : {A : Type 0} → Result A CreateFault → Type 0
TakesFile result = IfErr result (λ fault. (fault ≢ NotCreated) × (fault ≢ OtherRights))

-- Bytes were written to the file with this path, and to no other. Or that failed. Then the file is as it was, if it is
-- replaced by a new one, as in a plain folder; and at most one new file is left.
pub record HasWritten {A : Type 0} (path bytes : List ℕ) (plain : Bool) (before after : Option Files)
    (result : Result A FileFault) : Type 0 where
  pub written : OnOk result (Changed (IsSet path (Some bytes)) before after)
  pub spared : plain ≡ true → OnErr result (Changed (IsSpared path) before after)
  pub left : OnErr result (Changed (IsSparedOrSet path) before after)
  pub failed : IfErr result (IsWriteFault path)
