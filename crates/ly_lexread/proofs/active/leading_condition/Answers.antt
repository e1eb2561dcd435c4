use Rattle.std.proofs.Common.{sym}
use Rattle.ly_lexread.proofs.ActiveLemmas.{no_condition}
use Rattle.ly_lexread.proofs.active.leading_condition.Goals as goal

pub returns-in_err-find-clause-these : goal.returns-in_err-find-clause-these
returns-in_err-find-clause-these c = rw c.from_residual-in_err-find.ensures
    (λ n rest. no_condition c.args.conditions.now c.args.text.now c.in_ok-name.name.now c.in_ok-name.rest.now rest n
    c.in_ok-name.ensures (sym c.in_err-find.ensures))
