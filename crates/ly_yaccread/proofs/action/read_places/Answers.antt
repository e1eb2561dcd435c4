use Rattle.std.proofs.Common.{◌∙◌, ap}
use Rattle.std.proofs.lemmas.Result.{err_from_is_err_and}
use Rattle.ly_base.specs.SparseSet.{with_member}
use Rattle.ly_yaccread.specs.Actions.{Places}
use Rattle.ly_yaccread.specs.Private.Read.{left}
use Rattle.ly_yaccread.proofs.ActionLemmas.{no_places, places_none, places_some}
use Rattle.ly_yaccread.proofs.ReadLemmas.{refused}
use Rattle.ly_yaccread.proofs.action.read_places.Goals as goal

pub returns-in-Some : goal.returns-in-Some
returns-in-Some c = places_none c.args.symbols (left c.args.words) (left c.in-Some.rest) c.new.result.items
    c.in-Some.ensures c.new.ensures.items

pub returns-in_err-first : goal.returns-in_err-first
returns-in_err-first c =
    let ws = left c.args.words in
    let p = err_from_is_err_and c.from_residual.result c.from_residual.ensures.1 in
    refused (Places c.args.symbols ws) _ _ _ _ _ p.1 p.2
    (λ n ps rest h. no_places c.args.symbols ws c.in_default.ensures c.in_err-first.ensures ps rest h)

pub returns : goal.returns
returns c = places_some c.args.symbols (left c.args.words) (left c.in_ok-first.behind) (left c.in_ok-rest.rest)
    c.in_ok-first.first c.insert.new.self.members c.more_places.new.places.members c.in_ok-from_slice.field-0.items
    c.in_ok-first.ensures
    (ap (λ s. s.members) c.insert.ensures.added
    ∙ ap (λ s. with_member s.members c.in_ok-first.first) c.in_ok-places.ensures)
    c.in_ok-rest.ensures (c.in_ok-from_slice.ensures.items ∙ c.members.ensures.these)
