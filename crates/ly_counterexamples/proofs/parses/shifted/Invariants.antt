use Rattle.std.proofs.Common.{◌≡◌, ◌++◌, drop}
use Rattle.ly_counterexamples.specs.Moves.{shifted}
use Rattle.ly_counterexamples.specs.Sentences.{numbers_of}
use Rattle.ly_counterexamples.specs.Private.Leftmost.{moves_from}
use Rattle.ly_counterexamples.proofs.parses.shifted.Given as goal

-- the terminals so far, and those of the moves that are left
abbrev pub invariant-loop-step : goal.invariant-loop-step
invariant-loop-step l = numbers_of l.terminals.items ++ shifted (moves_from (drop l.step-index l.moves))
    ≡ shifted (moves_from l.moves)
