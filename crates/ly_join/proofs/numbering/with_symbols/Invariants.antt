use Rattle.std.proofs.Common.{◌≡◌, map, take}
use Rattle.ly_join.specs.Terminals.{same_terminal}
use Rattle.ly_join.specs.Private.Numbering.{with_all}
use Rattle.ly_join.specs.Private.Tables.{terminal_of}
use Rattle.ly_join.proofs.numbering.with_symbols.Given as goal

abbrev pub invariant-loop-symbol : goal.invariant-loop-symbol
invariant-loop-symbol l = l.terminals ≡ with_all same_terminal l.initial.terminals
    (take l.symbol-index (map terminal_of l.symbols))
