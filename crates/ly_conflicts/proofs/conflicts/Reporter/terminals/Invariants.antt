use Rattle.std.proofs.Common.{◌≡◌, ◌<◌, ℕ, Some, length, option_map, slice_get}
use Rattle.ly_resolve.specs.Conflicts.{Conflict}
use Rattle.ly_conflicts.specs.Groups.{IsConflictAt}
use Rattle.ly_conflicts.proofs.conflicts.Reporter.terminals.Given as goal

-- the terminals so far
abbrev pub invariant-loop-index : goal.invariant-loop-index
invariant-loop-index l = (length l.terminals.items ≡ l.index-index) × ((p i : ℕ) (c : Conflict) → p < l.index-index
    → slice_get l.group p ≡ Some i → IsConflictAt l.self.examples.now i c
    → option_map (λ t. t.0) (slice_get l.terminals.items p) ≡ Some c.terminal)
