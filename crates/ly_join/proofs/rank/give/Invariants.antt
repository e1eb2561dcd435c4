use Rattle.std.proofs.Common.{◌++◌, List, map, take}
use Rattle.ly_join.specs.Terminals.{TerminalName}
use Rattle.ly_join.specs.Private.Rules.{AreGiven}
use Rattle.ly_join.specs.Private.Tables.{terminal_of}
use Rattle.ly_join.specs.declared.precedence.Precedence.{Precedence}
use Rattle.ly_join.proofs.rank.give.Given as goal

abbrev pub invariant-loop-symbol : goal.invariant-loop-symbol
invariant-loop-symbol l = (before : List (TerminalName × Precedence)) → AreGiven before l.terminals l.initial.given
    → AreGiven (before ++ take l.symbol-index (map (λ s. (terminal_of s, l.precedence)) l.symbols)) l.terminals l.given
