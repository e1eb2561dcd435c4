use Rattle.std.proofs.Common.{◌≡◌, option_map, take}
use Rattle.ly_files.specs.MemFolder.{changed_by, no_files}
use Rattle.ly_files.proofs.mem_folder.MemFolder.get.Given as goal

-- the file that the path names after the first changes
abbrev pub invariant-loop-entry : goal.invariant-loop-entry
invariant-loop-entry l =
    option_map (λ file. file.now) l.found ≡ changed_by (take l.entry-index l.self.entries.items) no_files l.path
