use Rattle.std.proofs.Common.{◌≡◌, ◌<◌, length, map, All}
use Rattle.ly_join.specs.Grammar.{symbol_of}
use Rattle.ly_relate.specs.Private.Walks.{IsPassed}
use Rattle.ly_relate.proofs.walks.Walks.pass.Given as goal

-- the symbols before this one were passed
abbrev pub invariant-loop-symbol : goal.invariant-loop-symbol
invariant-loop-symbol l = record {
  includes : l.self.includes ≡ l.initial.self.includes;
  lookbacks : l.self.lookbacks ≡ l.initial.self.lookbacks;
  state : l.state.0 < length l.gotos.automaton.states;
  path : All (λ q. q.0 < length l.gotos.automaton.states) l.self.path.items;
  passed : IsPassed l.gotos.automaton l.initial.state.0 (map symbol_of l.body) l.symbol-index
      (map (λ q. q.0) l.self.path.items) l.state.0;
}
