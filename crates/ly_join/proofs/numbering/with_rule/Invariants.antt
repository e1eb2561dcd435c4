use Rattle.std.proofs.Common.{◌≡◌, map, take}
use Rattle.std.specs.List.{filter_map}
use Rattle.ly_yaccread.specs.File.{symbol_word}
use Rattle.ly_join.specs.Terminals.{literal_in, same_terminal}
use Rattle.ly_join.specs.Private.Numbering.{with_all}
use Rattle.ly_join.proofs.numbering.with_rule.Given as goal

abbrev pub invariant-loop-symbol : goal.invariant-loop-symbol
invariant-loop-symbol l = l.terminals ≡ with_all same_terminal l.initial.terminals
    (filter_map literal_in (take l.symbol-index (map symbol_word l.symbol-items)))
