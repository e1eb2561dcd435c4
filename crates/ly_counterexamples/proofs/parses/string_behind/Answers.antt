use Rattle.std.proofs.Common.{[]}
use Rattle.ly_counterexamples.specs.declared.moves.Move as code
use Rattle.ly_counterexamples.specs.declared.moves.Move.TheVariants.{Shift}
use Rattle.ly_counterexamples.specs.Moves.{Lead}
use Rattle.ly_counterexamples.specs.Private.Leftmost.{moves_from}
use Rattle.ly_counterexamples.proofs.ParseLemmas.{lead_end, lead_on, lead_stops}
use Rattle.ly_counterexamples.proofs.parses.string_behind.Goals as goal

-- what stands where no move does
abbrev no_move : code.Move
no_move = Shift (record { 0 = 0 })

pub loop-step-preserved : goal.loop-step-preserved
loop-step-preserved c =
    let G = c.args.grammar.now in
    let moves = c.args.moves.now in
    lead_on moves c.loop-step.step-index no_move G (λ h. Lead G [] (moves_from moves) h) c.loop-step.string.items
    c.loop-step.invariant c.loop-step-test.true c.make.new.string.items (rw c.if-not-branch.false at
    c.in_ok-make.ensures)

pub returns-then-not-branch : goal.returns-then-not-branch
returns-then-not-branch c =
    let G = c.args.grammar.now in
    let moves = c.args.moves.now in
    lead_stops moves c.loop-step.step-index no_move G (λ h. Lead G [] (moves_from moves) h) c.loop-step.string.items
    c.loop-step.invariant c.loop-step-test.true (rw c.if-not-branch.true at c.in_ok-make.ensures)

pub returns : goal.returns
returns c =
    let G = c.args.grammar.now in
    let moves = c.args.moves.now in
    lead_end G (λ h. Lead G [] (moves_from moves) h) moves c.loop-step.step-index c.loop-step.string.items
    c.loop-step-test.false c.loop-step.invariant
