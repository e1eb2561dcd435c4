use Rattle.std.proofs.Common.{rules, ◌∙◌, sym, ap, option_map, take}
use Rattle.std.specs.Prelude.{string_bytes}
use Rattle.ly_files.specs.MemFolder.{changed_by, no_files}
use Rattle.ly_files.proofs.FolderLemmas.{named_by_next, set_at, set_there}
use Rattle.ly_files.proofs.mem_folder.MemFolder.get.Goals as goal
use Rattle.ly_files.proofs.mem_folder.MemFolder.get.Goals.{then-eq, else-eq}

pub loop-entry-preserved : goal.loop-entry-preserved
loop-entry-preserved c = let next = named_by_next c.args.self.now.entries.items c.loop-entry.entry-index
    c.entry-item.result c.entry-item.result c.args.path.now (search rules) (search rules) in
    let before = changed_by (take c.loop-entry.entry-index c.args.self.now.entries.items) no_files in
    elim c.if-eq.branch [
      | then-eq w ↦ ap (option_map (λ file. file.now)) w.found-is ∙ w.bytes-found.ensures
          ∙ sym (next ∙ set_at (string_bytes c.entry-item.result.path) _ before c.args.path.now (search rules))
      | else-eq w ↦ ap (option_map (λ file. file.now)) w.found-is ∙ c.loop-entry.invariant
          ∙ sym (next ∙ set_there (string_bytes c.entry-item.result.path) _ before c.args.path.now (search rules))
    ]
