use Rattle.ly_position.proofs.SpotLemmas.{positions_come_next}
use Rattle.ly_position.proofs.laws.positions_come_next.Goals as goal

pub returns : goal.returns
returns c = positions_come_next
