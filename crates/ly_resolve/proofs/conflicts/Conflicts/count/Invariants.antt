use Rattle.std.proofs.Common.{◌≡◌, ◌≤◌, take}
use Rattle.std.specs.Prelude.{count_by}
use Rattle.ly_resolve.specs.Private.Conflicts.{items_from, start_from}
use Rattle.ly_resolve.specs.Values.{same_kind}
use Rattle.ly_resolve.proofs.conflicts.Conflicts.count.Given as goal

-- the conflicts of the runs so far were counted
abbrev pub invariant-loop-run : goal.invariant-loop-run
invariant-loop-run l = record {
  count : l.count ≡ count_by (λ c. same_kind l.fn.kind c.kind) (items_from 0 (take l.run-index l.run-items));
  start : l.start ≡ start_from 0 l.run-items l.run-index;
  within : l.count ≤ l.start;
}
