use Rattle.std.proofs.Common.{◌≡◌, ◌<◌, [], ◌++◌, length, get_or, reverse}
use Rattle.ly_position.proofs.grown.Grown.read.Given as goal

-- the list is what is left, and what is read behind it
abbrev pub invariant-loop-left : goal.invariant-loop-left
invariant-loop-left l = record {
  within : l.left < length l.self;
  read : get_or l.self l.number [] ≡ get_or l.self l.left [] ++ reverse l.into.items;
}

abbrev pub decreases-loop-left : goal.decreases-loop-left
decreases-loop-left l = l.left
