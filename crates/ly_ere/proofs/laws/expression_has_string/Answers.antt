use Rattle.ly_ere.proofs.StringLaws.{has_string}
use Rattle.ly_ere.proofs.laws.expression_has_string.Goals as goal

pub returns : goal.returns
returns c = has_string
