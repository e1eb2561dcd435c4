use Rattle.ly_subset.proofs.RuleSetLemmas.{more_sets_of_rules}
use Rattle.ly_subset.proofs.laws.more_sets_of_rules.Goals as goal

pub returns : goal.returns
returns c = more_sets_of_rules
