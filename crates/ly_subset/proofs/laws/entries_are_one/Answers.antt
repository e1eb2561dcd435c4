use Rattle.ly_subset.proofs.NumberingLemmas.{entries_are_one}
use Rattle.ly_subset.proofs.laws.entries_are_one.Goals as goal

pub returns : goal.returns
returns c = entries_are_one
