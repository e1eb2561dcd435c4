use Rattle.ly_counterexamples.proofs.ExampleLemmas.{conflicts_open, examples_follow}
use Rattle.ly_counterexamples.proofs.laws.examples_follow.Goals as goal

pub returns-clause-follow : goal.returns-clause-follow
returns-clause-follow c = examples_follow

pub returns-clause-opens : goal.returns-clause-opens
returns-clause-opens c = conflicts_open
