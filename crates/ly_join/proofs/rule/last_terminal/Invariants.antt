use Rattle.std.proofs.Common.{◌≡◌, map, take}
use Rattle.std.specs.Prelude.{option_map}
use Rattle.ly_join.specs.Grammar.{symbol_of}
use Rattle.ly_join.specs.Joined.{last_terminal}
use Rattle.ly_join.proofs.rule.last_terminal.Given as goal

abbrev pub invariant-loop-symbol : goal.invariant-loop-symbol
invariant-loop-symbol l = option_map (λ t. t.0) l.last ≡ last_terminal (take l.symbol-index (map symbol_of l.body))
