use Rattle.ly_emit.proofs.RuleShapeLemmas.{shapes_are_of_rules}
use Rattle.ly_emit.proofs.laws.shapes_are_of_rules.Goals as goal

pub returns : goal.returns
returns c = shapes_are_of_rules
