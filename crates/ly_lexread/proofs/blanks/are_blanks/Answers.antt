use Rattle.std.proofs.Common.{refl}
use Rattle.ly_lexread.proofs.BlankLemmas.{are_all_blanks}
use Rattle.ly_lexread.proofs.blanks.are_blanks.Goals as goal

pub returns : goal.returns
returns c = are_all_blanks c.args.text.now c.blanks_length.result _ c.blanks_length.ensures.value refl
