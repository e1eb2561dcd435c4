use Rattle.std.proofs.Common.{◌≡◌, ◌-◌, map, take}
use Rattle.ly_lexread.proofs.read.starts_of.Given as goal

-- those of the lines so far
abbrev pub invariant-loop-line : goal.invariant-loop-line
invariant-loop-line l = l.starts.items ≡ map (λ n. l.whole - n.left) (take l.line-index l.lines)
