use Rattle.ly_lexread.proofs.BlankLemmas.{no_next_name}
use Rattle.ly_lexread.proofs.directive.next_name.Goals as goal

pub returns-in_err-here-clause-these : goal.returns-in_err-here-clause-these
returns-in_err-here-clause-these c = rw c.from_residual.ensures (λ m n rest b h. c.in_err-here.ensures.these m b)

pub returns-in_err-name-clause-these : goal.returns-in_err-name-clause-these
returns-in_err-name-clause-these c = rw c.from_residual-in_err-name.ensures (λ m n rest.
    no_next_name c.args.text.now c.in_ok-here.here.now n m rest c.in_ok-here.ensures.these c.in_err-name.ensures)
