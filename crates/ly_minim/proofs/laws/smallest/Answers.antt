use Rattle.ly_minim.proofs.WalkLemmas.{smallest}
use Rattle.ly_minim.proofs.laws.smallest.Goals as goal

pub returns : goal.returns
returns c = smallest
