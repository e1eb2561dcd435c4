use Rattle.ly_resolve.proofs.AcceptedLemmas.{accepts_trees}
use Rattle.ly_resolve.proofs.laws.accepts_trees_only.Goals as goal

pub returns : goal.returns
returns c = accepts_trees
