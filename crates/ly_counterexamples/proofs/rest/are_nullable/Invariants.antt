use Rattle.std.proofs.Common.{◌↔◌, drop, map}
use Rattle.ly_join.specs.Grammar.{symbol_of}
use Rattle.ly_grammar.specs.Derivations.{IsNullable}
use Rattle.ly_counterexamples.proofs.rest.are_nullable.Given as goal

-- all are nullable where those from here on are
abbrev pub invariant-loop-symbol : goal.invariant-loop-symbol
invariant-loop-symbol l = IsNullable l.reduced.grammar (map symbol_of l.symbols)
    ↔ IsNullable l.reduced.grammar (drop l.symbol-index (map symbol_of l.symbols))
