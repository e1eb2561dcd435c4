use Rattle.ly_subset.proofs.RuleSetLemmas.{classes_of_rules}
use Rattle.ly_subset.proofs.laws.classes_of_rules.Goals as goal

pub returns : goal.returns
returns c = classes_of_rules
