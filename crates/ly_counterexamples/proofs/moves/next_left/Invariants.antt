use Rattle.std.proofs.Common.{◌≡◌, ◌++◌, List, length, map}
use Rattle.ly_counterexamples.specs.Moves.{Move}
use Rattle.ly_counterexamples.specs.Private.Leftmost.{known, moves_from, next_of}
use Rattle.ly_counterexamples.proofs.moves.next_left.Given as goal

-- so many moves were made
abbrev pub invariant-loop-next : goal.invariant-loop-next
invariant-loop-next l = (us : List Move) × (next_of l.fn.ahead.items ≡ map known us ++ next_of l.ahead.items)
    × (moves_from l.moves.items ≡ moves_from l.fn.moves.items ++ us)

abbrev pub decreases-loop-next : goal.decreases-loop-next
decreases-loop-next l = length l.ahead.items
