use Rattle.std.proofs.Common.{List, ℕ, length, ◌≡◌, ◌≤◌}
use Rattle.ly_lexread.specs.Lines.{BlockEnds}
use Rattle.ly_lexread.proofs.skipped.behind_block.Given as goal

-- the block goes on in the lines that are left
abbrev pub invariant-loop-line : goal.invariant-loop-line
invariant-loop-line l = record {
  sound : (rest : List ℕ) → BlockEnds l.left.bytes.now rest → BlockEnds l.initial.inside.bytes.now rest;
  complete : (rest : List ℕ) → BlockEnds l.initial.inside.bytes.now rest → BlockEnds l.left.bytes.now rest;
  within : length l.left.bytes.now ≤ length l.initial.inside.bytes.now;
  whole : l.left.whole ≡ l.initial.inside.whole;
}

abbrev pub decreases-loop-line : goal.decreases-loop-line
decreases-loop-line l = length l.left.bytes.now
