use Rattle.std.proofs.Common.{◌≡◌, map, replicate, []}
use Rattle.ly_pack.proofs.dense.no_lists.Given as goal

-- the list without a cell for each row so far
abbrev pub invariant-loop-row : goal.invariant-loop-row
invariant-loop-row g l = (l.none.value.items ≡ [])
    × (map (λ cells. cells.value.items) l.lists.items ≡ replicate l._row [])
