use Rattle.std.proofs.Common.{◌↔◌, drop, map}
use Rattle.ly_join.specs.Grammar.{symbol_of}
use Rattle.ly_grammar.specs.Derivations.{BeginsYield}
use Rattle.ly_counterexamples.proofs.rest.begins.Given as goal

-- the terminal begins what is yielded from here on, or nothing
abbrev pub invariant-loop-symbol : goal.invariant-loop-symbol
invariant-loop-symbol l = BeginsYield l.reduced.grammar (map symbol_of l.symbols) l.terminal.0
    ↔ BeginsYield l.reduced.grammar (drop l.symbol-index (map symbol_of l.symbols)) l.terminal.0
