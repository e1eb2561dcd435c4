use Rattle.std.proofs.Common.{◌≡◌, None}
use Rattle.std.proofs.lemmas.Bool.{iff_false}
use Rattle.ly_base.specs.declared.scan_action.Emitted.TheVariants.{Nothing}
use Rattle.ly_base.specs.declared.scan_action.ScanAction.{ScanAction}
use Rattle.ly_counterexamples.specs.Private.Unmarked.{ReturnsItself}
use Rattle.ly_counterexamples.proofs.MarkLemmas.{added_as, step_added, step_nothing}
use Rattle.ly_counterexamples.proofs.UnmarkedLemmas.{no_own_step, own_step}
use Rattle.ly_counterexamples.proofs.unreturned.mark_own.Goals as goal
use Rattle.ly_counterexamples.proofs.unreturned.mark_own.Goals.{in-Terminal+then-has, in-Terminal+else-has, in_default}

-- what stands where no action does
abbrev no_action : ScanAction
no_action = record { begin = None; emits = Nothing }

pub loop-rule-preserved : goal.loop-rule-preserved
loop-rule-preserved c =
    let acts = c.args.actions.now in
    let marks = c.args.matched.now in
    let P = ReturnsItself acts marks in
    let k = c.loop-rule.rule in
    let first = c.args.returned.now in
    let old = c.loop-rule.returned in
    elim c.match-actions-rule.branch [
      | in-Terminal+then-has w ↦ rw w.returned-is
          (step_added P k first old w.set.new.self c.loop-rule.invariant
          (added_as (λ n. n ≡ w.in-Terminal.terminal.0) (P k) old w.set.new.self
          (own_step acts marks k no_action c.loop-rule-test.true (w.has.ensures.0 w.if-has.true) w.in-Terminal.terminal
          w.in-Terminal.is) w.set.ensures))
      | in-Terminal+else-has w ↦ rw w.returned-is
          (step_nothing P k first old
          (no_own_step acts marks k no_action c.loop-rule-test.true (λ on own e.
          iff_false w.has.ensures w.if-has.false on)) c.loop-rule.invariant)
      | in_default w ↦ rw w.returned-is (step_nothing P k first old
          (no_own_step acts marks k no_action c.loop-rule-test.true (λ on own e. w.in_default.not-Terminal own e))
          c.loop-rule.invariant)
    ]
