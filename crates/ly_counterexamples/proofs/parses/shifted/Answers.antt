use Rattle.std.proofs.Common.{◌∙◌, ◌++◌, ap, append-nil, sym}
use Rattle.ly_counterexamples.specs.declared.moves.Move as code
use Rattle.ly_counterexamples.specs.declared.moves.Move.TheVariants.{Shift}
use Rattle.ly_counterexamples.specs.Moves.{shifted}
use Rattle.ly_counterexamples.specs.Sentences.{numbers_of}
use Rattle.ly_counterexamples.specs.Private.Leftmost.{moves_from}
use Rattle.ly_counterexamples.proofs.ParseLemmas.{all_shifted, reduces_next, shifts_more}
use Rattle.ly_counterexamples.proofs.parses.shifted.Goals as goal
use Rattle.ly_counterexamples.proofs.parses.shifted.Goals.{in-Reduce, in-Shift+in_ok-push-in-Shift}

-- what stands where no move does
abbrev no_move : code.Move
no_move = Shift (record { 0 = 0 })

pub loop-step-preserved : goal.loop-step-preserved
loop-step-preserved c =
    let moves = c.args.moves.now in
    let n = c.loop-step.step-index in
    elim c.match-step.branch [
      | in-Shift+in_ok-push-in-Shift w ↦ rw w.terminals-is
          (shifts_more moves n no_move (shifted (moves_from moves)) c.loop-step.terminals.items w.push.new.self.items
          c.loop-step-test.true w.in-Shift.terminal w.in-Shift.is w.in_ok-push-in-Shift.ensures.items
          c.loop-step.invariant)
      | in-Reduce w ↦ rw w.terminals-is
          (ap (λ x. numbers_of c.loop-step.terminals.items ++ x)
          (sym (reduces_next moves n no_move c.loop-step-test.true w.in-Reduce.field-0 w.in-Reduce.is))
          ∙ c.loop-step.invariant)
    ]

pub returns : goal.returns
returns c = sym (append-nil (numbers_of c.loop-step.terminals.items))
    ∙ ap (λ x. numbers_of c.loop-step.terminals.items ++ x)
    (sym (all_shifted c.args.moves.now c.loop-step.step-index c.loop-step-test.false))
    ∙ c.loop-step.invariant
