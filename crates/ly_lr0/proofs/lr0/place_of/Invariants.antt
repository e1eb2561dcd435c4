use Rattle.std.proofs.Common.{◌<◌, ◌≤◌, ◌-◌, ℕ, length, slice_index_or}
use Rattle.ly_join.specs.Grammar.{symbol_of}
use Rattle.ly_lr0.specs.Automaton.{IsLess}
use Rattle.ly_lr0.specs.declared.transition.Transition.{Transition}
use Rattle.ly_lr0.proofs.lr0.place_of.Given as goal

-- transitions before the low end come before the symbol, and those from the high end on don't
abbrev pub invariant-loop-low : goal.invariant-loop-low
invariant-loop-low l = record {
  ends : l.low ≤ l.high;
  within : l.high ≤ length l.transitions;
  before : (k : ℕ) (d : Transition) → k < l.low
      → IsLess (symbol_of (slice_index_or l.transitions k d).symbol) (symbol_of l.symbol);
  behind : (k : ℕ) (d : Transition) → l.high ≤ k → k < length l.transitions
      → IsLess (symbol_of (slice_index_or l.transitions k d).symbol) (symbol_of l.symbol) → ⊥;
}

abbrev pub decreases-loop-low : goal.decreases-loop-low
decreases-loop-low l = l.high - l.low
