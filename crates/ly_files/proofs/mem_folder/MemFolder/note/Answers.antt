use Rattle.std.proofs.Common.{◌∙◌, ap, option_map}
use Rattle.ly_files.specs.Folder.{set}
use Rattle.ly_files.specs.MemFolder.{changed_by, no_files, files_of}
use Rattle.ly_files.proofs.FolderLemmas.{changed_once_more}
use Rattle.ly_files.proofs.mem_folder.MemFolder.note.Goals as goal

pub returns-clause-ok : goal.returns-clause-ok
returns-clause-ok c = ap (λ es. changed_by es no_files) c.in_ok-push.ensures.items
    ∙ changed_once_more c.args.self.now.entries.items _ no_files
    ∙ ap (λ p. set p (option_map (λ f. f.items) c.args.file) (files_of c.args.self.now)) c.in_ok-path.ensures.ok
