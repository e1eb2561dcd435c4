-- What a command reads of files, and what it writes to them.
use Rattle.std.specs.Prelude.{◌≡◌, ℕ, [], ◌∷◌, ◌++◌, ◌≢◌, IfErr, List, MatchResult, None, Option, Result, Some, IsSome}
use Rattle.std.specs.declared.alloc.Global.{Global}
use Rattle.std.specs.declared.vec.Vec.{Vec}
use Rattle.ly_cli.specs.Paths.{as_list}
use Rattle.ly_cli.specs.Request.{Request, build, explain}
use Rattle.ly_files.specs.Folder.{AreSame, Changed, Files, IsFile, IsSparedOrSet, set}
use Rattle.lytab.specs.Failure.{IsOfDevice}
use Rattle.lytab.specs.declared.completion.Completion.{Completion}
use Rattle.lytab.specs.declared.failure.Failure.{Failure}

-- a read or write error, or out of memory
abbrev pub HasDeviceFailed : Result Completion Failure → Type 0
HasDeviceFailed result = MatchResult result (λ c. ⊥) IsOfDevice

-- These are the bytes of the file with this path, or a device failed.
abbrev pub IsRead : Option Files → List ℕ → Result Completion Failure → List ℕ → Type 0
IsRead files path result bytes = (HasDeviceFailed result → ⊥) → IsFile files path bytes

-- the files after bytes were written, if a path is named for them and there are some
abbrev pub set_if : Option (List ℕ) → Option (Vec ℕ Global) → Files → Files
set_if (Some path) (Some bytes) files = set path (Some bytes.items) files
set_if (Some path) None files = files
set_if None bytes files = files

-- what was changed, and nothing else, if the files are known
abbrev pub AreWritten : (Files → Files) → Option Files → Option Files → Type 0
AreWritten change before after = Changed (λ f g. AreSame (change f) g) before after

-- what a failed attempt to write a file left, if a path is named for it
abbrev pub IsLeftIf : Option (List ℕ) → Option Files → Option Files → Type 0
IsLeftIf (Some path) before after = Changed (IsSparedOrSet path) before after
IsLeftIf None before after = after ≡ before

-- a path is none of these
abbrev pub IsOther : List (List ℕ) → List ℕ → Type 0
IsOther [] p = Unit {0}
IsOther (path ∷ paths) p = (p ≢ path) × IsOther paths p

-- each file with another path than these is as it was
abbrev pub AreOthersKept : List (List ℕ) → Files → Files → Type 0
AreOthersKept paths before after = (p : List ℕ) → IsOther paths p → IsSome (before p) → after p ≡ before p

-- The files after a command. Those that it doesn't write are as they were, and so are all if it refuses what it read.
abbrev pub AreFilesLeft : Request → Result Completion Failure → Option Files → Option Files → Type 0
AreFilesLeft (build lex yacc table_file report version expected points) result before after =
    Changed (AreOthersKept (table_file ∷ as_list report)) before after
    × IfErr result (λ f. (IsOfDevice f → ⊥) → after ≡ before)
AreFilesLeft (explain lex yacc states graph strictness form) result before after =
    Changed (AreOthersKept (as_list states ++ as_list graph)) before after
AreFilesLeft _ result before after = after ≡ before
