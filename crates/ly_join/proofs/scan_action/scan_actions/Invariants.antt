use Rattle.std.proofs.Common.{map, take}
use Rattle.std.specs.List.{AllZip}
use Rattle.ly_join.specs.Scanning.{acting_of, IsScanAction}
use Rattle.ly_join.proofs.scan_action.scan_actions.Given as goal

abbrev pub invariant-loop-action : goal.invariant-loop-action
invariant-loop-action l = AllZip (IsScanAction l.terminals) (take l.action-index (map acting_of l.actions))
    l.joined.items
