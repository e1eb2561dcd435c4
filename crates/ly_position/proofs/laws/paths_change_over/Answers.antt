use Rattle.ly_position.proofs.SpotLemmas.{paths_change_over}
use Rattle.ly_position.proofs.laws.paths_change_over.Goals as goal

pub returns : goal.returns
returns c = paths_change_over
