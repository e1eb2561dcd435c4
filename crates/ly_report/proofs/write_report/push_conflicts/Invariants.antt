use Rattle.std.proofs.Common.{◌≡◌, ◌++◌, map, take}
use Rattle.std.specs.Prelude.{flat_map}
use Rattle.ly_resolve.specs.Values.{conflict_from}
use Rattle.ly_report.specs.Report.{conflict_line}
use Rattle.ly_report.proofs.write_report.push_conflicts.Given as goal

-- the lines so far were appended
abbrev pub invariant-loop-index : goal.invariant-loop-index
invariant-loop-index l = l.out.items ≡ l.initial.out.items
    ++ flat_map (conflict_line l.spec) (map (conflict_from l.lr0) (take l.index l.conflicts))
