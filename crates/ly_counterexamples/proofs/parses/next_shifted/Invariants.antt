use Rattle.std.proofs.Common.{◌≡◌, drop}
use Rattle.ly_counterexamples.specs.Moves.{shifted}
use Rattle.ly_counterexamples.specs.Private.Leftmost.{moves_from}
use Rattle.ly_counterexamples.proofs.parses.next_shifted.Given as goal

-- nothing was shifted so far
abbrev pub invariant-loop-step : goal.invariant-loop-step
invariant-loop-step l = shifted (moves_from (drop l.step-index l.moves)) ≡ shifted (moves_from l.moves)
