use Rattle.ly_subset.proofs.ChainLemmas.{run_if, run_if_not}
use Rattle.ly_subset.proofs.chains.Span.contains.Goals as goal

pub returns-then-self-number : goal.returns-then-self-number
returns-then-self-number c = run_if c.args.self.first c.args.self.last c.args.number c.if-self-number.true

pub returns-else-self-number : goal.returns-else-self-number
returns-else-self-number c = run_if_not c.args.self.first c.args.self.last c.args.number c.if-self-number.false
