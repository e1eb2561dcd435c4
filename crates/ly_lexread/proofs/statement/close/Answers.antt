use Rattle.std.proofs.lemmas.Result.{err_from_is_err_and}
use Rattle.ly_lexread.proofs.StatementLemmas.{closed_bare, closed_open, not_closed}
use Rattle.ly_lexread.proofs.statement.close.Goals as goal

pub returns-then-not-is_open-clause-these : goal.returns-then-not-is_open-clause-these
returns-then-not-is_open-clause-these c = closed_bare c.args.gaps c.args.text.now c.args.is_open c.behind_mark.result
    c.if-not-is_open.true c.behind_mark.ensures.these

pub returns-in_err-behind-clause-these : goal.returns-in_err-behind-clause-these
returns-in_err-behind-clause-these c =
    let p = err_from_is_err_and c.from_residual.result c.from_residual.ensures.1 in
    rw p.1 (λ rest. not_closed c.args.gaps c.args.text.now rest c.args.is_open c.if-not-is_open.false
    c.in_err-behind.ensures.these)

pub returns-clause-these : goal.returns-clause-these
returns-clause-these c = closed_open c.args.gaps c.args.text.now c.in_ok-behind.behind.now c.args.is_open
    c.behind_mark-3.result c.if-not-is_open.false c.in_ok-behind.ensures.these c.behind_mark-3.ensures.these
