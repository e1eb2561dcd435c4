use Rattle.ly_lexread.proofs.LexingLaws.{lexing_one}
use Rattle.ly_lexread.proofs.laws.lexing_is_one.Goals as goal

pub returns : goal.returns
returns c = lexing_one
