use Rattle.std.proofs.Common.{◌∙◌, sym}
use Rattle.ly_base.proofs.LookedUpLemmas.{lists_same}
use Rattle.ly_pack.proofs.SameLemmas.{cell_same}
use Rattle.ly_pack.proofs.dense.are_equal.Goals as goal

pub returns : goal.returns
returns c = λ yes. lists_same _ cell_same c.args.one.now c.args.other.now (sym c.eq.ensures ∙ yes)
