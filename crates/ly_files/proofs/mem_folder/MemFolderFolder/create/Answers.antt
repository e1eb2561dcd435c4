use Rattle.std.proofs.Common.{rules}
use Rattle.ly_files.proofs.FolderLemmas.{put_or_not}
use Rattle.ly_files.proofs.mem_folder.MemFolderFolder.create.Goals as goal

pub returns-in-Err-clause-err : goal.returns-in-Err-clause-err
returns-in-Err-clause-err c =
    (search rules, put_or_not _ _ _ _ _ c.put.result c.put.ensures.ok c.put.ensures.err c.count.ensures.files)
