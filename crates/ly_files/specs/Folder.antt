-- The files of a folder by their paths, and how they change. `Files` are the bytes of the file that each path names, or
-- None for a path that names none. Where nothing is known of the files, as of the host's, there are no `Files`.
use Rattle.std.specs.Prelude.{◌≡◌, ◌≢◌, ◌⊎◌, ℕ, List, Option, None, Some, IsSome, bytes_eq, if◌then◌else◌}

-- for each path the bytes of its file, if it names one
abbrev pub Files : Type 0
Files = List ℕ → Option (List ℕ)

-- the path names a file with these bytes, if the files are known
abbrev pub IsFile : Option Files → List ℕ → List ℕ → Type 0
IsFile None path bytes = Unit {0}
IsFile (Some files) path bytes = files path ≡ Some bytes

-- what a file holds that was opened by this path: the bytes of the file that the path names, if the files are known
abbrev pub IsOpened : Option Files → List ℕ → Option (List ℕ) → Type 0
IsOpened None path given = Unit {0}
IsOpened (Some files) path given = IsSome (files path) × (given ≡ files path)

-- the bytes of the file that the path names, if that is known
abbrev pub named : Option Files → List ℕ → Option (List ℕ)
named None path = None
named (Some files) path = files path

-- the files in which a path names this file, or none
abbrev pub set : List ℕ → Option (List ℕ) → Files → Files
set path file files p = if bytes_eq p path then file else files p

-- each path names the same file
abbrev pub AreSame : Files → Files → Type 0
AreSame before after = (p : List ℕ) → after p ≡ before p

-- the path names this file, or none, and each other path the same as before
abbrev pub IsSet : List ℕ → Option (List ℕ) → Files → Files → Type 0
IsSet path file before after = AreSame (set path file before) after

-- the path names some file, or none, and each other path the same as before
abbrev pub IsSetSomehow : List ℕ → Files → Files → Type 0
IsSetSomehow path before after = (file : Option (List ℕ)) × IsSet path file before after

-- a new file was created: the path named none before, and it has these bytes
abbrev pub IsCreated : List ℕ → List ℕ → Files → Files → Type 0
IsCreated path bytes before after = (before path ≡ None) × IsSet path (Some bytes) before after

-- a new file was begun: the path named none before
abbrev pub IsBegun : List ℕ → Files → Files → Type 0
IsBegun path before after = (before path ≡ None) × IsSetSomehow path before after

-- a file has another path, and the file that had that path is gone
abbrev pub IsRenamed : List ℕ → List ℕ → Files → Files → Type 0
IsRenamed from to before after = AreSame (set from None (set to (before from) before)) after

-- The file with this path is as it was, and so is each other; or a new file was begun at a path that named none.
abbrev pub IsSpared : List ℕ → Files → Files → Type 0
IsSpared path before after = AreSame before after ⊎ ((new : List ℕ) × (new ≢ path) × IsBegun new before after)

-- the same, or only the file with this path changed
abbrev pub IsSparedOrSet : List ℕ → Files → Files → Type 0
IsSparedOrSet path before after = IsSpared path before after ⊎ IsSetSomehow path before after

-- a change, if the files are known
abbrev pub Changed : (Files → Files → Type 0) → Option Files → Option Files → Type 0
Changed change None None = Unit {0}
Changed change None (Some after) = ⊥
Changed change (Some before) None = ⊥
Changed change (Some before) (Some after) = change before after
