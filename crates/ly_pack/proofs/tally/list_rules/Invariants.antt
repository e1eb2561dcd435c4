use Rattle.std.proofs.Common.{◌≡◌, ℕ, take}
use Rattle.ly_pack.specs.Private.Tally.{cells_by, times}
use Rattle.ly_pack.proofs.tally.list_rules.Given as goal

-- the rules of the cells so far
abbrev pub invariant-loop-cell : goal.invariant-loop-cell
invariant-loop-cell l = (p : ℕ) → times p l.rules.items ≡ cells_by p (take l.cell-index l.cell-items)
