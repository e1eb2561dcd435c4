use Rattle.std.proofs.Common.{◌≤◌, ◌-◌, map, length, take}
use Rattle.ly_join.specs.Grammar.{symbol_of}
use Rattle.ly_grammar.specs.Private.Search.{SymbolsPass}
use Rattle.ly_grammar.proofs.search.passing_until.Given as goal

-- what stands before the place passes, if what stood before the first one did
abbrev pub invariant-loop-at : goal.invariant-loop-at
invariant-loop-at l = record {
  within : l.at ≤ length l.body;
  passing : SymbolsPass l.found l.terminals (take l.from (map symbol_of l.body))
      → SymbolsPass l.found l.terminals (take l.at (map symbol_of l.body));
}

abbrev pub decreases-loop-at : goal.decreases-loop-at
decreases-loop-at l = length l.body - l.at
