use Rattle.ly_ere.proofs.PatternLaws.{pattern_one}
use Rattle.ly_ere.proofs.laws.pattern_is_one.Goals as goal

pub returns : goal.returns
returns c = pattern_one
