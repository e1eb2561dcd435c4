use Rattle.std.proofs.Common.{◌≡◌, ◌<◌, ℕ, false, true}
use Rattle.ly_scan.specs.StateTable.{start_at, table_from}
use Rattle.ly_scan.proofs.scanner.minds_lines.Given as goal

-- each of the conditions so far begins in one state
abbrev pub invariant-loop-start : goal.invariant-loop-start
invariant-loop-start l =
    (k : ℕ) → k < l.start-index → start_at (table_from l.parts) k true ≡ start_at (table_from l.parts) k false
