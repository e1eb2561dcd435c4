use Rattle.std.proofs.Common.{ap, ◌∙◌, ◌++◌, ◌∷◌, [], Some, None, option_map, sym}
use Rattle.ly_files.specs.MemFolder.{changed_by, no_files}
use Rattle.ly_files.specs.declared.mem_folder.Entry.{Entry}
use Rattle.ly_files.proofs.FolderLemmas.{changed_twice_more, moved_to}
use Rattle.ly_files.proofs.mem_folder.MemFolderFolder.rename.Goals as goal

pub returns-clause-ok : goal.returns-clause-ok
returns-clause-ok c = λ p.
    let last : Entry = record { path = c.in_ok-from_str-2.field-0; file = None } in
    let first : Entry = record { path = c.in_ok-from_str.field-0; file = Some c.in_ok-from_slice.field-0 } in
    ap (λ es. changed_by es no_files p) (c.push_reserved-2.ensures.items
    ∙ ap (λ es. es ++ last ∷ []) (c.push_reserved.ensures.items
    ∙ ap (λ es. es ++ first ∷ []) c.in_ok-reserve.ensures.items))
    ∙ ap (λ f. f p) (changed_twice_more c.count.new.self.entries.items first last no_files)
    ∙ moved_to _ _ _ _ _ _ _ p c.in_ok-from_str-2.ensures.ok c.in_ok-from_str.ensures.ok c.count.ensures.files
    (ap Some c.in_ok-from_slice.ensures.items ∙ ap (option_map (λ f. f.now)) (sym c.in-Some.is) ∙ c.get.ensures)
