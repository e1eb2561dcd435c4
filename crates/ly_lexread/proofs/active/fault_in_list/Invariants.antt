use Rattle.std.proofs.Common.{length}
use Rattle.ly_lexread.proofs.active.fault_in_list.Given as goal

abbrev pub decreases-loop-number : goal.decreases-loop-number
decreases-loop-number l = length l.left
