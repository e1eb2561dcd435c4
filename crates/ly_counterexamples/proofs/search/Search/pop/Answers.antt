use Rattle.std.proofs.Common.{◌∙◌, arith, subst, sym, Contains}
use Rattle.std.specs.Prelude.{◌↔◌}
use Rattle.ly_join.specs.Grammar.{symbol_of}
use Rattle.ly_join.proofs.ListLemmas.{member_at}
use Rattle.ly_counterexamples.specs.Demands.{IsPop}
use Rattle.ly_counterexamples.specs.declared.steps.Pop.{Pop}
use Rattle.ly_counterexamples.specs.declared.halt.Halt.TheVariants.{TooMany}
use Rattle.ly_counterexamples.specs.Private.Searches.{automaton_of}
use Rattle.ly_counterexamples.proofs.SearchLemmas.{allowed_before, found_on, stays_among}
use Rattle.ly_counterexamples.proofs.UnderwayLemmas.{each_more, no_pop, not_too_many, pop_next, pop_next_kept}
use Rattle.ly_counterexamples.proofs.UnderwayLemmas.{popped_all}
use Rattle.ly_counterexamples.proofs.UnderwayLemmas.{still_err}
use Rattle.ly_counterexamples.proofs.search.Search.pop.Goals as goal

pub pops-requires-clause-kept : goal.pops-requires-clause-kept
pops-requires-clause-kept c = c.requires.search.kept c.at-demand.result
    (member_at c.args.self.now.found c.args.place c.at-demand.result c.at-demand.ensures)

pub add-requires-clause-step : goal.add-requires-clause-step
add-requires-clause-step c = pop_next c.args.sought.now c.args.self.now c.loop-next.self c.requires.search
    c.loop-next.invariant.on c.args.place c.at-demand.result c.at-demand.ensures c.deref-next-items.result.now
    (subst (λ ps. (p : Pop) → Contains ps p
    ↔ IsPop (automaton_of c.args.sought.now) (symbol_of p.symbol) c.at-demand.result p.demand)
    (sym c.deref-next-items.ensures.value) c.in_ok-demands.ensures) c.loop-next.next-index
    (omega (arith, c.loop-next-test.true, c.loop-next.auto.next-index-end))

pub add-requires-clause-kept : goal.add-requires-clause-kept
add-requires-clause-kept c = pop_next_kept c.args.sought.now c.args.self.now c.loop-next.self c.requires.search
    c.loop-next.invariant.on c.args.place c.at-demand.result c.at-demand.ensures c.deref-next-items.result.now
    (subst (λ ps. (p : Pop) → Contains ps p
    ↔ IsPop (automaton_of c.args.sought.now) (symbol_of p.symbol) c.at-demand.result p.demand)
    (sym c.deref-next-items.ensures.value) c.in_ok-demands.ensures) c.loop-next.next-index
    (omega (arith, c.loop-next-test.true, c.loop-next.auto.next-index-end))

pub returns-in_err-add-clause-many : goal.returns-in_err-add-clause-many
returns-in_err-add-clause-many c = λ is. allowed_before c.args.sought.now c.args.self.now.found
    c.args.self.now.links.items c.requires.search c.loop-next.self.found c.loop-next.self.links.items
    c.loop-next.invariant.on
    (c.in_err-add.ensures.many
    (still_err c.from_residual-in_err-add.result TooMany c.in_err-add.field-0.0 is
    c.from_residual-in_err-add.ensures.1))

pub loop-next-preserved : goal.loop-next-preserved
loop-next-preserved c =
    let mid = c.loop-next.self in
    let new = c.add.new.self in
    let goes = c.loop-next.invariant.on in
    record {
      on = found_on c.args.sought.now c.args.self.now.found c.args.self.now.links.items c.requires.search mid.found
          new.found mid.links.items new.links.items goes c.in_ok-add.ensures.on;
      there = each_more c.deref-next-items.result.now (λ p. Contains new.found p.demand) c.loop-next.next-index no_pop
          (omega (arith, c.loop-next-test.true, c.loop-next.auto.next-index-end))
          (λ k p lt at. stays_among c.args.sought.now mid.found mid.links.items goes.are new.found new.links.items
          c.in_ok-add.ensures.on p.demand (c.loop-next.invariant.there k p lt at)) c.in_ok-add.ensures.there;
      climbed = c.in_ok-add.ensures.climbed ∙ c.loop-next.invariant.climbed;
      popped = c.in_ok-add.ensures.popped ∙ c.loop-next.invariant.popped;
      best = c.in_ok-add.ensures.best ∙ c.loop-next.invariant.best;
    }

pub returns-clause-pops : goal.returns-clause-pops
returns-clause-pops c = popped_all c.args.sought.now c.args.self.now c.loop-next.self c.args.place c.at-demand.result
    c.deref-next-items.result.now c.at-demand.ensures
    (subst (λ ps. (p : Pop) → Contains ps p
    ↔ IsPop (automaton_of c.args.sought.now) (symbol_of p.symbol) c.at-demand.result p.demand)
    (sym c.deref-next-items.ensures.value) c.in_ok-demands.ensures)
    (λ k p lt at. c.loop-next.invariant.there k p
    (omega (arith, lt, c.loop-next-test.false, c.loop-next.auto.next-index-end)) at)

pub returns-in_err-demands-clause-many : goal.returns-in_err-demands-clause-many
returns-in_err-demands-clause-many c = λ is.
    absurd (not_too_many c.from_residual.result is c.from_residual.ensures.1)
