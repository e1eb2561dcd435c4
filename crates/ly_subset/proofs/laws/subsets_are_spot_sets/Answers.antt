use Rattle.ly_subset.proofs.RuleSetLemmas.{subsets_are_spot_sets}
use Rattle.ly_subset.proofs.laws.subsets_are_spot_sets.Goals as goal

pub returns : goal.returns
returns c = subsets_are_spot_sets
