use Rattle.std.proofs.Common.{ap, arith, length}
use Rattle.ly_tree.proofs.HeadedLemmas.{length-headed_from}
use Rattle.ly_tree.proofs.headed.Headed.len.Goals as goal

pub returns : goal.returns
returns g c =
    omega (
      arith,
      c.len.ensures,
      length-headed_from 0 c.self.inside.headings.items c.self.inside.members.items,
      ap length c.self.view_is,
    )
