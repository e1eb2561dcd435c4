use Rattle.std.proofs.Common.{◌≡◌, ◌+◌, length, take}
use Rattle.ly_loop.proofs.ReductionLemmas.{IsRow}
use Rattle.ly_loop.proofs.reductions.reductions.Given as goal

-- the rules of the entries so far are in the row
abbrev pub invariant-loop-cell : goal.invariant-loop-cell
invariant-loop-cell g l = record {
  row : IsRow l.machine l.fn.state.0 (take l.cell-index l.entries) l.seen.members l.row.items;
  room : l.seen.below ≡ length l.machine.rules + 1;
}
