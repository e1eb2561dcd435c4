use Rattle.ly_position.proofs.SpotLemmas.{positions_live}
use Rattle.ly_position.proofs.laws.positions_live.Goals as goal

pub returns : goal.returns
returns c = positions_live
