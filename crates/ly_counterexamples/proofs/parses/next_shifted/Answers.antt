use Rattle.std.proofs.Common.{◌∙◌, ◌+◌, drop, sym}
use Rattle.ly_counterexamples.specs.declared.moves.Move as code
use Rattle.ly_counterexamples.specs.declared.moves.Move.TheVariants.{Shift}
use Rattle.ly_counterexamples.specs.Moves.{shifted}
use Rattle.ly_counterexamples.specs.Private.Leftmost.{moves_from}
use Rattle.ly_counterexamples.proofs.ParseLemmas.{all_shifted, reduces_next, shifts_next}
use Rattle.ly_counterexamples.proofs.parses.next_shifted.Goals as goal

-- what stands where no move does
abbrev no_move : code.Move
no_move = Shift (record { 0 = 0 })

pub returns-in-Shift : goal.returns-in-Shift
returns-in-Shift c = (
  shifted (moves_from (drop (c.loop-step.step-index + 1) c.args.moves.now)),
  sym c.loop-step.invariant ∙ shifts_next c.args.moves.now c.loop-step.step-index no_move c.loop-step-test.true
      c.in-Shift.terminal c.in-Shift.is,
)

pub loop-step-preserved : goal.loop-step-preserved
loop-step-preserved c =
    sym (reduces_next c.args.moves.now c.loop-step.step-index no_move c.loop-step-test.true c.in-Reduce.field-0
    c.in-Reduce.is) ∙ c.loop-step.invariant

pub returns : goal.returns
returns c = sym c.loop-step.invariant ∙ all_shifted c.args.moves.now c.loop-step.step-index c.loop-step-test.false
