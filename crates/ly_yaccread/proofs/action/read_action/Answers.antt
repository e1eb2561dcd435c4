use Rattle.std.proofs.lemmas.Result.{err_from_is_err_and}
use Rattle.ly_yaccread.specs.Actions.{ActionPassed}
use Rattle.ly_yaccread.specs.File.{making_of}
use Rattle.ly_yaccread.specs.Private.Read.{left}
use Rattle.ly_yaccread.proofs.ActionLemmas.{no_end}
use Rattle.ly_yaccread.proofs.ReadLemmas.{refused}
use Rattle.ly_yaccread.proofs.action.read_action.Goals as goal

pub returns-in_err-rest : goal.returns-in_err-rest
returns-in_err-rest c =
    let ws = left c.args.words in
    let p = err_from_is_err_and c.from_residual-in_err-rest.result c.from_residual-in_err-rest.ensures.1 in
    refused (ActionPassed c.args.symbols ws) _ _ _ _ _ p.1 p.2
    (λ n m rest a. no_end c.args.symbols ws (left c.in-Some.inside) (left c.in_ok-value.value)
    (left c.in_ok-action.behind) (making_of c.in_ok-action.action) c.in-Some.ensures c.in_ok-value.ensures
    c.in_ok-action.ensures c.in_err-rest.ensures m rest a)
