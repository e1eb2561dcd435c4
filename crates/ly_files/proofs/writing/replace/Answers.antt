use Rattle.ly_files.proofs.writing.replace.Goals as goal

pub returns-in-Ok-clause-written : goal.returns-in-Ok-clause-written
returns-in-Ok-clause-written g c = c.take_place.ensures _ _ _ c.in-Ok.ensures.ok
