use Rattle.std.proofs.Common.{◌≡◌, ◌<◌, ℕ}
use Rattle.ly_base.specs.declared.cut.Cut.TheVariants.{Whole}
use Rattle.ly_scan.specs.StateTable.{cut_at, table_from}
use Rattle.ly_scan.proofs.scanner.is_uncut.Given as goal

-- none of the rules so far has a cut
abbrev pub invariant-loop-cut : goal.invariant-loop-cut
invariant-loop-cut l = (k : ℕ) → k < l.cut-index → cut_at (table_from l.parts) k ≡ Whole
