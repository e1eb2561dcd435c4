use Rattle.std.proofs.Common.{arith, refl}
use Rattle.ly_sets.specs.SetMatrix.{Matrix}
use Rattle.ly_digraph.specs.Search.{IsAt}
use Rattle.ly_digraph.proofs.StepLemmas.{IsGoingOn, meets_by, going_on, going_fewer}
use Rattle.ly_digraph.proofs.UnionLemmas.{between_none}
use Rattle.ly_digraph.proofs.walk.Walk.meet.Goals as goal

goes_on : (c : goal.After-advance) (m : Matrix) → IsAt c.args.graph.now m.sets c.args.self.now
    → IsGoingOn c.args.graph.now m m c.args.self.now c.advance.new.self
goes_on c m at = meets_by c.args.graph.now m c.args.self.now c.lower.new.self c.advance.new.self c.args.position at
    c.requires.waits c.requires.pends c.lower.ensures c.advance.ensures

pub returns-clause-on : goal.returns-clause-on
returns-clause-on c = λ m at. going_on (goes_on c m at) (between_none c.args.graph.now m.sets) refl (omega arith)

pub returns-clause-fewer : goal.returns-clause-fewer
returns-clause-fewer c = λ m at. going_fewer (goes_on c m at)
