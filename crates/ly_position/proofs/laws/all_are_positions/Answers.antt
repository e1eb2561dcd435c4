use Rattle.ly_position.proofs.FullLemmas.{all_are_positions}
use Rattle.ly_position.proofs.laws.all_are_positions.Goals as goal

pub returns : goal.returns
returns c = all_are_positions
