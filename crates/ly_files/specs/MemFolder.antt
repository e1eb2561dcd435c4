-- The files of a MemFolder, and the bytes of a MemFile.
use Rattle.std.specs.Prelude.{ℕ, List, [], ◌∷◌, None, Option, drop, option_map, string_bytes}
use Rattle.ly_files.specs.Folder.{Files, set}
use Rattle.ly_files.specs.declared.mem_folder.Entry.{Entry}
use Rattle.ly_files.specs.declared.mem_folder.MemFile.{MemFile}
use Rattle.ly_files.specs.declared.mem_folder.MemFolder.{MemFolder}

-- no path names a file
abbrev pub no_files : Files
no_files path = None

-- the files after these changes
abbrev pub changed_by : List Entry → Files → Files
changed_by [] files = files
changed_by (e ∷ es) files = changed_by es (set (string_bytes e.path) (option_map (λ f. f.items) e.file) files)

-- the files of a folder in memory
abbrev pub files_of : MemFolder → Files
files_of folder = changed_by folder.entries.items no_files

-- the number of changes that succeed before each fails, if it is set to fail
abbrev pub changes_left : MemFolder → Option ℕ
changes_left folder = folder.left

-- the bytes of an open file that are not read yet
abbrev pub unread : MemFile → List ℕ
unread file = drop file.read file.bytes.items

-- no read of it fails
abbrev pub read_failures : MemFile → ℕ
read_failures file = 0
