use Rattle.std.proofs.Common.{◌∙◌, ap, sym}
use Rattle.std.proofs.lemmas.Result.{err_from_is_err_and}
use Rattle.ly_yaccread.specs.Private.Read.{left}
use Rattle.ly_yaccread.proofs.ActionLemmas.{no_place, one_place, places_end}
use Rattle.ly_yaccread.proofs.action.more_places.Goals as goal

pub returns-in-Some : goal.returns-in-Some
returns-in-Some c = places_end c.args.symbols c.args.places.now.members c.loop-behind.places.members (left c.args.words)
    (left c.loop-behind.rest) (left c.in-Some.behind) c.loop-behind.invariant.goes_on c.in-Some.ensures

pub returns-in_err-place : goal.returns-in_err-place
returns-in_err-place c =
    let p = err_from_is_err_and c.from_residual.result c.from_residual.ensures.1 in
    rw p.1 (λ all rest h. no_place c.args.symbols c.loop-behind.places.members (left c.loop-behind.rest)
    (left c.in-Some-after.inside) c.in-Some-after.ensures c.in_err-place.ensures all rest
    (c.loop-behind.invariant.goes_on.complete all rest h))

pub loop-behind-preserved : goal.loop-behind-preserved
loop-behind-preserved c = record {
  same_room = ap (λ s. s.below) c.insert.ensures.added ∙ c.loop-behind.invariant.same_room;
  goes_on = one_place c.args.symbols c.args.places.now.members c.loop-behind.places.members c.insert.new.self.members
      c.in_ok-place.place (left c.args.words) (left c.loop-behind.rest) (left c.in-Some-after.inside)
      (left c.in_ok-place.behind) c.loop-behind.invariant.goes_on c.in-Some-after.ensures c.in_ok-place.ensures
      (sym c.if-not-insert.false ∙ c.insert.ensures.new) (ap (λ s. s.members) c.insert.ensures.added);
}
