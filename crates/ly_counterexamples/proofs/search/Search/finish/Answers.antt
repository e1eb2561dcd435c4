use Rattle.std.proofs.Common.{◌≤◌, ◌∙◌, arith, length}
use Rattle.ly_counterexamples.specs.declared.halt.Halt.TheVariants.{TooMany}
use Rattle.ly_counterexamples.proofs.UnderwayLemmas.{none_meets, still_err}
use Rattle.ly_counterexamples.proofs.search.Search.finish.Goals as goal

pub returns-in_err-advance-clause-many : goal.returns-in_err-advance-clause-many
returns-in_err-advance-clause-many c = λ is d at. c.in_err-advance.ensures.many
    (still_err c.from_residual.result TooMany c.in_err-advance.field-0.0 is
    c.from_residual.ensures.1) d (c.loop-self.invariant.first ∙ at)

pub returns-in_ok-string-in-Some-clause-found : goal.returns-in_ok-string-in-Some-clause-found
returns-in_ok-string-in-Some-clause-found c = λ d is first second.
    c.in_ok-string-in-Some.ensures d (c.loop-self.invariant.first ∙ is)

pub returns-in-None-clause-found : goal.returns-in-None-clause-found
returns-in-None-clause-found c =
    let s = c.loop-self.self in
    let underway = c.loop-self.invariant.underway in
    let all : length s.found ≤ s.popped = omega (arith, c.loop-self-test.false, c.len.ensures.count) in
    λ d is. none_meets c.args.sought.now s.found s.links.items s.climbed s.popped underway.search
    (underway.done c.in-None.is) all underway.popped d (c.loop-self.invariant.first ∙ is)
