use Rattle.ly_ere.proofs.PlaceLemmas.{names_one}
use Rattle.ly_ere.proofs.laws.names_are_one.Goals as goal

pub returns : goal.returns
returns c = names_one
