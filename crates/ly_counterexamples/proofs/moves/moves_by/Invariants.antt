use Rattle.std.proofs.Common.{drop}
use Rattle.ly_counterexamples.specs.Private.Leftmost.{IsUnderWay, moves_from, next_of}
use Rattle.ly_counterexamples.proofs.moves.moves_by.Given as goal

abbrev pub invariant-loop-number : goal.invariant-loop-number
invariant-loop-number l = IsUnderWay l.grammar l.rules (moves_from l.moves.items) (next_of l.ahead.items)
    (drop l.number-index l.rules)
