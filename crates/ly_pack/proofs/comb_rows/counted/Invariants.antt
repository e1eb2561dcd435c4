use Rattle.std.proofs.Common.{◌≡◌, map}
use Rattle.ly_pack.proofs.comb_rows.counted.Given as goal

-- those so far
abbrev pub invariant-loop-cells : goal.invariant-loop-cells
invariant-loop-cells g l = map (λ cells. cells.value) l.counted.items ≡ l.yielded
