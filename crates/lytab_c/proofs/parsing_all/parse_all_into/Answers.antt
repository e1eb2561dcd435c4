use Rattle.std.proofs.Common.{refl}
use Rattle.lytab_c.proofs.AnswerLemmas.{all_told}
use Rattle.lytab_c.proofs.parsing_all.parse_all_into.Goals as goal

pub returns-in-Ok : goal.returns-in-Ok
returns-in-Ok c =
    all_told c.args.tables.now c.args.texts.now c.args.ends.now _ _ _ c.put_all.result c.in-Ok.answers
    (c.in_default.ensures.right refl) c.in-Ok.ensures.answered c.put_all.ensures
