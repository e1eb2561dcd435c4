use Rattle.std.proofs.Common.{◌≡◌}
use Rattle.ly_files.proofs.writing.write_file.Given as goal

-- no file has changed
abbrev pub invariant-loop-number : goal.invariant-loop-number
invariant-loop-number g l = let folder = g.D.Folder in record {
  held : folder.holds l.folder ≡ folder.holds l.initial.folder;
  plain : folder.is_plain l.folder ≡ folder.is_plain l.initial.folder;
}
