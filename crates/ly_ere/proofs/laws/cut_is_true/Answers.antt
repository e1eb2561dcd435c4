use Rattle.ly_ere.proofs.StringLaws.{true_cut}
use Rattle.ly_ere.proofs.laws.cut_is_true.Goals as goal

pub returns : goal.returns
returns c = true_cut
