use Rattle.ly_base.proofs.LexedLemmas.{leads_on}
use Rattle.ly_lexread.specs.Lexing.{EndsAt, IsWinnerAt}
use Rattle.ly_lexread.proofs.laws.lexing_goes_on.Goals as goal

pub returns : goal.returns
returns c = λ names rules next p q ts us e h k.
    leads_on (IsWinnerAt names rules) (EndsAt names rules) next p q ts us e h k
