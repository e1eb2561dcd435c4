use Rattle.std.proofs.Common.{length}
use Rattle.ly_lexread.proofs.definitions.named_lines.Given as goal

abbrev pub decreases-loop-line : goal.decreases-loop-line
decreases-loop-line l = length l.left.bytes.now
