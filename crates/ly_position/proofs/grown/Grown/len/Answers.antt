use Rattle.std.proofs.Common.{arith}
use Rattle.ly_position.proofs.GrownLemmas.{grown_count}
use Rattle.ly_position.proofs.grown.Grown.len.Goals as goal

pub returns : goal.returns
returns c = omega (arith, grown_count c.self.inside.extended.items c.args.self.now c.self.view_is)
