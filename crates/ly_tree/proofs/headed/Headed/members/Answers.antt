use Rattle.std.proofs.Common.{ap, arith, length, map}
use Rattle.std.specs.Prelude.{sum}
use Rattle.ly_tree.proofs.HeadedLemmas.{members_counted}
use Rattle.ly_tree.proofs.headed.Headed.members.Goals as goal

pub returns : goal.returns
returns g c =
    let ms = c.self.inside.members.items in
    omega (
      arith,
      c.len.ensures,
      members_counted 0 c.self.inside.headings.items ms (length ms) (omega arith) c.self.invariant,
      ap (λ ls. sum (map (λ l. length l.1) ls)) c.self.view_is,
    )
