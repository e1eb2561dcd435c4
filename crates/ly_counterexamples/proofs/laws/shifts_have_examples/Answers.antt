use Rattle.ly_counterexamples.proofs.ExampleLemmas.{shifts_have_examples}
use Rattle.ly_counterexamples.proofs.laws.shifts_have_examples.Goals as goal

pub returns : goal.returns
returns c = shifts_have_examples
