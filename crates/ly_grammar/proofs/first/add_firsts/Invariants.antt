use Rattle.std.proofs.Common.{◌≡◌, ◌++◌, map, take}
use Rattle.ly_join.specs.Grammar.{symbol_of}
use Rattle.ly_grammar.specs.Private.First.{parts, AreAdded}
use Rattle.ly_grammar.proofs.first.add_firsts.Given as goal

-- the symbols before this one were added
abbrev pub invariant-loop-symbol : goal.invariant-loop-symbol
invariant-loop-symbol l = record {
  graph : l.graph ≡ record l.initial.graph {
    edges = l.initial.graph.edges ++ parts l.left (map symbol_of (take l.symbol-index l.symbol-items));
  };
  sets : AreAdded l.initial.sets l.sets l.left (map symbol_of (take l.symbol-index l.symbol-items));
}
