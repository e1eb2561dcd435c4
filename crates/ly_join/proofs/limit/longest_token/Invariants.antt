use Rattle.std.proofs.Common.{◌≡◌, map, take}
use Rattle.ly_join.specs.Counts.{greatest, token_length}
use Rattle.ly_join.specs.Private.Tables.{terminal_of}
use Rattle.ly_join.proofs.limit.longest_token.Given as goal

abbrev pub invariant-loop-symbol : goal.invariant-loop-symbol
invariant-loop-symbol l = l.longest ≡ greatest (take l.symbol-index (map token_length (map terminal_of l.symbols)))
