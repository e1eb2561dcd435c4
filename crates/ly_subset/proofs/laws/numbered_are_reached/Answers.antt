use Rattle.ly_subset.proofs.LawLemmas.{reached}
use Rattle.ly_subset.proofs.laws.numbered_are_reached.Goals as goal

pub returns : goal.returns
returns c = reached
