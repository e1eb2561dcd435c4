use Rattle.ly_pack.proofs.CombCellLemmas.{AreAllBelow}
use Rattle.ly_pack.proofs.comb_rows.CombRows.cells.Given as goal

-- what the slots so far give to each row
abbrev pub invariant-loop-place : goal.invariant-loop-place
invariant-loop-place g l = AreAllBelow l.self l.place l.lists.items
