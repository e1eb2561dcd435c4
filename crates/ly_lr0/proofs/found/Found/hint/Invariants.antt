use Rattle.std.proofs.Common.{◌-◌, length}
use Rattle.ly_lr0.proofs.found.Found.hint.Given as goal

abbrev pub decreases-loop-place : goal.decreases-loop-place
decreases-loop-place l = length l.transitions - l.place
