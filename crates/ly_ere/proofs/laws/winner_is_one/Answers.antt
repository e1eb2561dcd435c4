use Rattle.ly_ere.proofs.WinnerLaws.{winner_one}
use Rattle.ly_ere.proofs.laws.winner_is_one.Goals as goal

pub returns : goal.returns
returns c = winner_one
