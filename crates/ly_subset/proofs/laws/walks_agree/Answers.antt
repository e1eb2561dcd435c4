use Rattle.ly_subset.proofs.LawLemmas.{walks}
use Rattle.ly_subset.proofs.laws.walks_agree.Goals as goal

pub returns : goal.returns
returns c = walks
