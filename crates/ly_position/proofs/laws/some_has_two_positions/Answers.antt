use Rattle.ly_position.proofs.FullLemmas.{some_has_two_positions}
use Rattle.ly_position.proofs.laws.some_has_two_positions.Goals as goal

pub returns : goal.returns
returns c = some_has_two_positions
