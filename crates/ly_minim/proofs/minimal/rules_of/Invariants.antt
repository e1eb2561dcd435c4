use Rattle.std.proofs.Common.{◌≡◌, ◌<◌, ℕ, length, map, Some, None}
use Rattle.std.specs.Prelude.{option_map, slice_index_or}
use Rattle.ly_subset.specs.Automaton.{rule_of}
use Rattle.ly_minim.proofs.minimal.rules_of.Given as goal

-- the states so far have their rules
abbrev pub invariant-loop-state : goal.invariant-loop-state
invariant-loop-state l = record {
  count : length l.rules.items ≡ l.state-index;
  same : (n : ℕ) → n < l.state-index → slice_index_or (map (option_map (λ i. i.0)) l.rules.items) n None
      ≡ rule_of l.dfa (Some (slice_index_or l.states n 0));
}
