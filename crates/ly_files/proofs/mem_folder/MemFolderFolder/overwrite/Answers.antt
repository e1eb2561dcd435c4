use Rattle.std.proofs.Common.{◌∙◌}
use Rattle.ly_files.proofs.ChangeLemmas.{on_error}
use Rattle.ly_files.proofs.FolderLemmas.{set_same}
use Rattle.ly_files.proofs.mem_folder.MemFolderFolder.overwrite.Goals as goal

pub returns-in_err-count-clause-err : goal.returns-in_err-count-clause-err
returns-in_err-count-clause-err c = on_error c.from_residual.result (set_same _ _ _ c.count.ensures.files)

pub returns-in_err-put-clause-err : goal.returns-in_err-put-clause-err
returns-in_err-put-clause-err c = on_error c.from_residual-in_err-put.result
    (set_same _ _ _ (c.in_err-put.ensures.err ∙ c.count.ensures.files))
