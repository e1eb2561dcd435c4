use Rattle.std.proofs.Common.{◌∙◌, ap, arith, subst, sym, Contains}
use Rattle.std.proofs.lemmas.Bool.{both_ways}
use Rattle.std.specs.Prelude.{◌↔◌}
use Rattle.ly_join.proofs.ListLemmas.{member_at}
use Rattle.ly_counterexamples.specs.Demands.{IsClimb}
use Rattle.ly_counterexamples.specs.declared.claim.Claim.TheVariants.{Settled}
use Rattle.ly_counterexamples.specs.declared.claim.Demand.{Demand}
use Rattle.ly_counterexamples.specs.declared.halt.Halt.TheVariants.{TooMany}
use Rattle.ly_counterexamples.specs.Private.Searches.{automaton_of}
use Rattle.ly_counterexamples.proofs.FoundLemmas.{same_claim}
use Rattle.ly_counterexamples.proofs.SearchLemmas.{allowed_before, found_on, stays_among}
use Rattle.ly_counterexamples.proofs.UnderwayLemmas.{climb_next, climb_next_kept, climbed_all, each_more, no_demand}
use Rattle.ly_counterexamples.proofs.UnderwayLemmas.{not_too_many, still_err}
use Rattle.ly_counterexamples.proofs.search.Search.climb.Goals.{else-eq-via-then-eq+else-eq-2, else-eq-via-else-eq}
use Rattle.ly_counterexamples.proofs.search.Search.climb.Goals as goal

pub climbs-requires-clause-kept : goal.climbs-requires-clause-kept
climbs-requires-clause-kept c = c.requires.search.kept c.at-demand.result
    (member_at c.args.self.now.found c.args.place c.at-demand.result c.at-demand.ensures)

pub add-requires-clause-step : goal.add-requires-clause-step
add-requires-clause-step c = climb_next c.args.sought.now c.args.self.now c.loop-next.self c.requires.search
    c.loop-next.invariant.on c.args.place c.at-demand.result c.at-demand.ensures c.deref-next-items.result.now
    (subst (λ ds. (e : Demand) → Contains ds e
    ↔ IsClimb (automaton_of c.args.sought.now) c.args.sought.now.terminal.0 c.at-demand.result e)
    (sym c.deref-next-items.ensures.value) c.in_ok-demands.ensures) c.loop-next.next-index
    (omega (arith, c.loop-next-test.true, c.loop-next.auto.next-index-end))

pub add-requires-clause-kept : goal.add-requires-clause-kept
add-requires-clause-kept c = climb_next_kept c.args.sought.now c.args.self.now c.loop-next.self c.requires.search
    c.loop-next.invariant.on c.args.place c.at-demand.result c.at-demand.ensures c.deref-next-items.result.now
    (subst (λ ds. (e : Demand) → Contains ds e
    ↔ IsClimb (automaton_of c.args.sought.now) c.args.sought.now.terminal.0 c.at-demand.result e)
    (sym c.deref-next-items.ensures.value) c.in_ok-demands.ensures) c.loop-next.next-index
    (omega (arith, c.loop-next-test.true, c.loop-next.auto.next-index-end))

pub returns-in_err-add-clause-many : goal.returns-in_err-add-clause-many
returns-in_err-add-clause-many c = λ is. allowed_before c.args.sought.now c.args.self.now.found
    c.args.self.now.links.items c.requires.search c.loop-next.self.found c.loop-next.self.links.items
    c.loop-next.invariant.on
    (c.in_err-add.ensures.many
    (still_err c.from_residual-in_err-add.result TooMany c.in_err-add.field-0.0 is
    c.from_residual-in_err-add.ensures.1))

pub loop-next-preserved : goal.loop-next-preserved
loop-next-preserved c =
    let mid = c.loop-next.self in
    let new = c.add.new.self in
    let goes = c.loop-next.invariant.on in
    record {
      on = found_on c.args.sought.now c.args.self.now.found c.args.self.now.links.items c.requires.search mid.found
          new.found mid.links.items new.links.items goes c.in_ok-add.ensures.on;
      there = each_more c.deref-next-items.result.now (λ e. Contains new.found e) c.loop-next.next-index no_demand
          (omega (arith, c.loop-next-test.true, c.loop-next.auto.next-index-end))
          (λ k e lt at. stays_among c.args.sought.now mid.found mid.links.items goes.are new.found new.links.items
          c.in_ok-add.ensures.on e (c.loop-next.invariant.there k e lt at)) c.in_ok-add.ensures.there;
      climbed = c.in_ok-add.ensures.climbed ∙ c.loop-next.invariant.climbed;
      popped = c.in_ok-add.ensures.popped ∙ c.loop-next.invariant.popped;
      best = c.in_ok-add.ensures.best ∙ c.loop-next.invariant.best;
    }

pub returns-clause-climbs : goal.returns-clause-climbs
returns-clause-climbs c =
    let d = c.at-demand.result in
    climbed_all c.args.sought.now c.args.self.now c.loop-next.self c.args.place d c.deref-next-items.result.now
    c.at-demand.ensures
    (subst (λ ds. (e : Demand) → Contains ds e
    ↔ IsClimb (automaton_of c.args.sought.now) c.args.sought.now.terminal.0 c.at-demand.result e)
    (sym c.deref-next-items.ensures.value) c.in_ok-demands.ensures)
    (λ k e lt at. c.loop-next.invariant.there k e
    (omega (arith, lt, c.loop-next-test.false, c.loop-next.auto.next-index-end)) at)
    c.loop-next.invariant.best
    (λ first second. elim c.else-eq.branch [
      | else-eq-via-then-eq+else-eq-2 w ↦ both_ways w.eq-then-eq.result w.if-eq-2.false
          (w.eq-then-eq.ensures ∙ ap (λ x. same_claim x Settled) second)
      | else-eq-via-else-eq w ↦ both_ways c.eq.result w.if-eq.false
          (c.eq.ensures ∙ ap (λ x. same_claim x Settled) first)
    ])

pub returns-in_err-demands-clause-many : goal.returns-in_err-demands-clause-many
returns-in_err-demands-clause-many c = λ is.
    absurd (not_too_many c.from_residual.result is c.from_residual.ensures.1)
