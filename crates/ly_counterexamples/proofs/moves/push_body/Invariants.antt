use Rattle.std.proofs.Common.{◌≡◌, ◌++◌, map, reverse, take}
use Rattle.ly_join.specs.Grammar.{symbol_of}
use Rattle.ly_counterexamples.specs.Private.Leftmost.{ahead_of, next_of}
use Rattle.ly_counterexamples.proofs.moves.push_body.Given as goal

-- the symbols so far are in front, the last of them first
abbrev pub invariant-loop-symbol : goal.invariant-loop-symbol
invariant-loop-symbol l = next_of l.ahead.items
    ≡ reverse (map (λ x. ahead_of (symbol_of x)) (take l.symbol-index l.symbol-items)) ++ next_of l.fn.ahead.items
