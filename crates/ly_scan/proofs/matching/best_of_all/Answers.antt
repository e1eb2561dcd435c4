use Rattle.std.proofs.Common.{◌∙◌, ◌+◌, [], ap, is_some, subst, sym}
use Rattle.std.proofs.lemmas.List.{take_more}
use Rattle.ly_scan.proofs.WalkLemmas.{best_ended, best_stepped, some_or_none, stands_next}
use Rattle.ly_scan.specs.Walk.{IsBest, Walk}
use Rattle.ly_scan.proofs.matching.best_of_all.Goals as goal

pub returns-in_default : goal.returns-in_default
returns-in_default g c =
    let walk : Walk = g.S.Steps.ahead c.args.steps.now c.args.start in
    best_ended walk c.args.rest.now c.loop-passed.passed c.loop-passed.best c.loop-passed.auto.passed-end
    c.requires.start.ends
    (ap walk (take_more c.args.rest.now c.loop-passed.passed 0 c.loop-passed-test.true)
    ∙ sym (c.loop-passed.invariant.ahead _) ∙ some_or_none _ c.in_default.ensures.alive)
    c.loop-passed.invariant.best

pub loop-passed-preserved : goal.loop-passed-preserved
loop-passed-preserved g c =
    let walk : Walk = g.S.Steps.ahead c.args.steps.now c.args.start in
    let here : Walk = g.S.Steps.ahead c.args.steps.now c.loop-passed.at in
    let there : Walk = g.S.Steps.ahead c.args.steps.now c.in-Some.next in
    let rest = c.args.rest.now in
    let passed = c.loop-passed.passed in
    let on = c.in-Some.ensures.there in record {
      stands = c.in-Some.ensures.stands;
      ahead = stands_next walk here there rest passed c.loop-passed-test.true c.loop-passed.invariant.ahead on;
      best = subst (IsBest walk rest (passed + 1)) (sym c.better-best.ensures)
          (best_stepped walk here there rest passed c.accept.result c.loop-passed.best c.loop-passed-test.true
          c.loop-passed.invariant.ahead on (ap is_some (on []) ∙ sym c.in-Some.ensures.alive) c.accept.ensures
          c.loop-passed.invariant.best);
    }
