use Rattle.std.proofs.Common.{◌≡◌, ◌++◌, map, take}
use Rattle.ly_join.specs.Grammar.{symbol_of}
use Rattle.ly_grammar.specs.Private.Reach.{uses}
use Rattle.ly_grammar.proofs.useful.add_uses.Given as goal

-- the edges of the symbols before this one were added
abbrev pub invariant-loop-symbol : goal.invariant-loop-symbol
invariant-loop-symbol l = l.graph ≡ record l.initial.graph {
  edges = l.initial.graph.edges ++ uses l.left (map symbol_of (take l.symbol-index l.symbol-items));
}
