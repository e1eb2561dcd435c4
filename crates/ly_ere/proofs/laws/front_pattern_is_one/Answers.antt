use Rattle.ly_ere.proofs.FrontLaws.{front_pattern_one}
use Rattle.ly_ere.proofs.laws.front_pattern_is_one.Goals as goal

pub returns : goal.returns
returns c = front_pattern_one
