use Rattle.std.proofs.Common.{◌<◌, length, take}
use Rattle.ly_lr0.specs.Automaton.{Reaches, goto_of}
use Rattle.ly_counterexamples.specs.Private.Parses.{string_of}
use Rattle.ly_counterexamples.proofs.parses.state_behind.Given as goal

-- the symbols so far lead to the state
abbrev pub invariant-loop-symbol : goal.invariant-loop-symbol
invariant-loop-symbol l = record {
  inside : l.state.0 < length l.lr0.states;
  leads : Reaches (goto_of l.lr0) 0 (string_of (take l.symbol-index l.string)) l.state.0;
}
