use Rattle.std.proofs.Common.{◌∙◌, refl, sym}
use Rattle.ly_files.proofs.WritingLemmas.{failed_rename}
use Rattle.ly_files.proofs.writing.take_place.Goals as goal

pub returns-in-Err : goal.returns-in-Err
returns-in-Err g c = λ before bytes plain created. failed_rename c.args.target.path.now c.args.target.new.now bytes
    plain before (g.D.Folder.holds c.rename.new.self) (g.D.Folder.holds c.remove.new.self) c.remove.result _ refl
    (λ known e. c.requires.beside (e ∙ sym (c.requires.same (rw (sym c.in-Err.ensures.err) known))))
    (rw (sym c.in-Err.ensures.err) at created) c.remove.ensures.ok c.remove.ensures.err
