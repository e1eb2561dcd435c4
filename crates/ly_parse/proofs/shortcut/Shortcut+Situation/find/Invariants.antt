use Rattle.ly_parse.proofs.ShortcutLemmas.{left_of, IsOnWay}
use Rattle.ly_parse.proofs.shortcut.Shortcut+Situation.find.Given as goal

abbrev pub invariant-loop-left : goal.invariant-loop-left
invariant-loop-left g l = IsOnWay l.machine l.from l.state.0

abbrev pub decreases-loop-left : goal.decreases-loop-left
decreases-loop-left g l = left_of l.machine l.from l.state.0
