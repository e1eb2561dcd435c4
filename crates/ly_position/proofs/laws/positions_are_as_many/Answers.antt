use Rattle.ly_position.proofs.CountLemmas.{positions_are_as_many}
use Rattle.ly_position.proofs.laws.positions_are_as_many.Goals as goal

pub returns : goal.returns
returns c = positions_are_as_many
