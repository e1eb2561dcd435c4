use Rattle.std.proofs.Common.{◌≡◌, map, replicate, []}
use Rattle.ly_pack.proofs.comb_rows.no_cells.Given as goal

-- a list without a cell for each row so far
abbrev pub invariant-loop-row : goal.invariant-loop-row
invariant-loop-row g l = map (λ cells. cells.items) l.lists.items ≡ replicate l._row []
