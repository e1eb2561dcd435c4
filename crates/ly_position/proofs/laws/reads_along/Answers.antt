use Rattle.ly_position.proofs.SpotLemmas.{reads_along}
use Rattle.ly_position.proofs.laws.reads_along.Goals as goal

pub returns : goal.returns
returns c = reads_along
