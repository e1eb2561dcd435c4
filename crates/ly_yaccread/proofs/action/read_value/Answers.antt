use Rattle.std.proofs.lemmas.Result.{err_from_is_err_and}
use Rattle.ly_yaccread.specs.Actions.{ValueFirst, passes}
use Rattle.ly_yaccread.specs.Private.Read.{left}
use Rattle.ly_yaccread.proofs.ActionLemmas.{no_value, value_built}
use Rattle.ly_yaccread.proofs.ReadLemmas.{refused}
use Rattle.ly_yaccread.proofs.action.read_value.Goals as goal

pub returns-in_err-place : goal.returns-in_err-place
returns-in_err-place c =
    let ws = left c.args.words in
    let p = err_from_is_err_and c.from_residual.result c.from_residual.ensures.1 in
    refused (ValueFirst c.args.symbols ws) _ _ _ _ _ p.1 p.2
    (λ n m rest h. no_value c.args.symbols ws c.in_default.ensures c.in_err-place.ensures m rest h)

pub returns-in_default : goal.returns-in_default
returns-in_default c = passes c.in_ok-place.place (left c.args.words) (left c.in_ok-place.rest) c.in_ok-place.ensures

pub returns : goal.returns
returns c = rw c.in_ok-node.ensures.ok
    (value_built c.args.symbols (left c.args.words) (left c.in-Some.behind) (left c.in-Some-after.inside)
    (left c.in_ok-places.rest) c.in-Some.name.now c.in_ok-name.name.items c.in_ok-places.places.items c.in-Some.ensures
    c.if-not-is_constructor.ensures c.in-Some-after.ensures c.in_ok-places.ensures c.in_ok-name.ensures.items)
