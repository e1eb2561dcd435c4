use Rattle.ly_repair.proofs.StackLemmas.{below_is}
use Rattle.ly_repair.proofs.stacks.Stacks.below.Goals as goal

pub returns-in-Some : goal.returns-in-Some
returns-in-Some c = below_is c.args.self.now c.args.at.0 c.in-Some.level c.in-Some.ensures
