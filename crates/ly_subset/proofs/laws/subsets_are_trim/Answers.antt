use Rattle.ly_subset.proofs.LawLemmas.{trim}
use Rattle.ly_subset.proofs.laws.subsets_are_trim.Goals as goal

pub returns : goal.returns
returns c = trim
