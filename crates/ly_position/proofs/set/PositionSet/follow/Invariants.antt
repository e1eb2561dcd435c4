use Rattle.std.proofs.Common.{◌-◌, length}
use Rattle.ly_position.proofs.SetLemmas.{Closing}
use Rattle.ly_position.proofs.set.PositionSet.follow.Given as goal

abbrev pub invariant-loop-done : goal.invariant-loop-done
invariant-loop-done l = Closing l.forks l.fn.self l.self l.done

abbrev pub decreases-loop-done : goal.decreases-loop-done
decreases-loop-done l = length l.forks - l.done
