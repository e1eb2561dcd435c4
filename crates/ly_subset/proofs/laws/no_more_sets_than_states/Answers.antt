use Rattle.ly_subset.proofs.RuleSetLemmas.{no_more_sets_than_states}
use Rattle.ly_subset.proofs.laws.no_more_sets_than_states.Goals as goal

pub returns : goal.returns
returns c = no_more_sets_than_states
