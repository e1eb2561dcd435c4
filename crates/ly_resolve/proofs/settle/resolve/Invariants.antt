use Rattle.std.proofs.Common.{◌≡◌, ℕ, List, length, map, All, Some, slice_get}
use Rattle.ly_lr0.specs.Automaton.{prefix_of}
use Rattle.ly_resolve.specs.Precedence.{judge_of}
use Rattle.ly_resolve.specs.Private.Found.{AreTold}
use Rattle.ly_resolve.specs.Private.ActionRows.{rows_from}
use Rattle.ly_resolve.specs.Resolved.{TerminalAction, IsRow}
use Rattle.ly_resolve.specs.Values.{conflict_from, IsInside}
use Rattle.ly_resolve.proofs.settle.resolve.Given as goal

-- the states before this one are settled, and their conflicts told
abbrev pub invariant-loop-state : goal.invariant-loop-state
invariant-loop-state l = record {
  count : length (rows_from l.rows.places.items l.rows.kept.items) ≡ l.state;
  rows : (k : ℕ) (row : List TerminalAction) → slice_get (rows_from l.rows.places.items l.rows.kept.items) k
      ≡ Some row
      → IsRow l.lr0.grammar (judge_of l.spec) (prefix_of l.lr0 k) row;
  told : AreTold l.lr0 (judge_of l.spec) l.state 0 (map (conflict_from l.lr0) l.told.conflicts)
      l.told.conflict_free;
  inside : All (IsInside l.lr0) l.told.conflicts;
}
