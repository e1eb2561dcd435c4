use Rattle.std.proofs.Common.{◌≡◌}
use Rattle.ly_resolve.specs.declared.action.Action.TheVariants.{Shift}
use Rattle.ly_resolve.specs.declared.action.TerminalAction as code
use Rattle.ly_counterexamples.specs.Private.Reductions.{ReducesAt}
use Rattle.ly_counterexamples.proofs.MarkLemmas.{added_as, step_added, step_nothing}
use Rattle.ly_counterexamples.proofs.ReductionLemmas.{entry_reduces, no_entry_reduces, row_marked}
use Rattle.ly_counterexamples.proofs.unreduced.mark_reductions.Goals as goal
use Rattle.ly_counterexamples.proofs.unreduced.mark_reductions.Goals.{in-Reduce, in_default}

-- what stands where no entry does
abbrev no_entry : code.TerminalAction
no_entry = record { terminal = record { 0 = 0 }; action = Shift }

pub loop-entry-preserved : goal.loop-entry-preserved
loop-entry-preserved c =
    let row = c.args.row.now in
    let P = ReducesAt row in
    let k = c.loop-entry.entry-index in
    let first = c.args.reduced.now in
    let old = c.loop-entry.reduced in
    elim c.match-entry.branch [
      | in-Reduce w ↦ rw w.reduced-is
          (step_added P k first old w.set.new.self c.loop-entry.invariant
          (added_as (λ n. n ≡ w.in-Reduce.rule.0) (P k) old w.set.new.self
          (entry_reduces row k no_entry c.loop-entry-test.true w.in-Reduce.rule w.in-Reduce.is) w.set.ensures))
      | in_default w ↦ rw w.reduced-is
          (step_nothing P k first old
          (no_entry_reduces row k no_entry c.loop-entry-test.true w.in_default.not-Reduce) c.loop-entry.invariant)
    ]

pub returns : goal.returns
returns c = row_marked c.args.row.now c.loop-entry.entry-index c.loop-entry-test.false c.args.reduced.now
    c.loop-entry.reduced c.loop-entry.invariant
