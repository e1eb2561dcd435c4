use Rattle.std.proofs.Common.{◌≡◌, ◌<◌, ℕ, None, length}
use Rattle.ly_subset.specs.Automaton.{entry_at}
use Rattle.ly_subset.proofs.classes.clear.Given as goal

-- the keys before this one have no name
abbrev pub invariant-loop-key : goal.invariant-loop-key
invariant-loop-key l = record {
  none : (k : ℕ) → k < l.key → entry_at l.names.items k ≡ None;
  same : length l.names.items ≡ length l.initial.names.items;
}
