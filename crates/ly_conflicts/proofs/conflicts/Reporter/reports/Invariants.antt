use Rattle.std.proofs.Common.{◌≡◌, ℕ, Some, length, slice_get}
use Rattle.ly_conflicts.specs.declared.groups.Group.{Group}
use Rattle.ly_conflicts.specs.declared.group_report.GroupReport.{GroupReport}
use Rattle.ly_conflicts.specs.GroupReport.{IsGroupReport}
use Rattle.ly_conflicts.proofs.conflicts.Reporter.reports.Given as goal

-- the groups so far are reported
abbrev pub invariant-loop-group : goal.invariant-loop-group
invariant-loop-group l = record {
  same : l.finder.examples.now ≡ l.self.examples.now;
  count : length l.all.items ≡ l.group-index;
  each : (p : ℕ) (g : Group) (t : GroupReport) → slice_get l.group-items p ≡ Some g → slice_get l.all.items p ≡ Some t
      → IsGroupReport l.self.examples.now g.conflicts.items t;
}
