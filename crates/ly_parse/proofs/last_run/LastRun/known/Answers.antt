use Rattle.std.proofs.Common.{◌∙◌, ◌+◌, refl, subst, sym, take}
use Rattle.std.proofs.lemmas.List.{take_all, take_more}
use Rattle.ly_parse.specs.Private.LastRun.{AreAlike}
use Rattle.ly_parse.proofs.LastRunLemmas.{one_more_alike}
use Rattle.ly_parse.proofs.last_run.LastRun.known.Goals as goal

pub loop-state-preserved : goal.loop-state-preserved
loop-state-preserved g c =
    let m = c.args.machine.now in
    let last = c.in-Some.last.0 in
    let now = c.args.terminal.0 in
    let met = c.members-state-items.result.now in
    let k = c.loop-state.state-index in
    subst (λ ms. AreAlike m last now (take (k + 1) ms)) c.members-state-items.ensures.these
    (subst (AreAlike m last now) (sym (take_more met k 0 c.loop-state-test.true))
    (one_more_alike m last now (take k met) _ _ _ c.action-before.ensures c.action-action.ensures
    (subst (λ ms. AreAlike m last now (take k ms)) (sym c.members-state-items.ensures.these) c.loop-state.invariant)
    (c.does_the_same.ensures c.if-not-does_the_same.false)))

pub returns : goal.returns
returns g c =
    let m = c.args.machine.now in
    let last = c.in-Some.last.0 in
    let now = c.args.terminal.0 in
    let met = c.members-state-items.result.now in
    record {
      terminal = c.in-Some.last;
      some = c.in-Some.is;
      alike = subst (AreAlike m last now) (take_all c.loop-state.state-index met c.loop-state-test.false
          ∙ c.members-state-items.ensures.these)
          (subst (λ ms. AreAlike m last now (take c.loop-state.state-index ms))
          (sym c.members-state-items.ensures.these) c.loop-state.invariant);
      same = refl;
    }
