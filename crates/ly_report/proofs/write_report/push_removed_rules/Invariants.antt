use Rattle.std.proofs.Common.{◌≡◌, ◌++◌, take}
use Rattle.std.specs.Prelude.{flat_map}
use Rattle.ly_report.specs.Report.{removed_line}
use Rattle.ly_report.proofs.write_report.push_removed_rules.Given as goal

-- the lines so far were appended
abbrev pub invariant-loop-number : goal.invariant-loop-number
invariant-loop-number l = l.out.items ≡ l.initial.out.items
    ++ flat_map (removed_line l.spec) (take l.number-index l.removed)
