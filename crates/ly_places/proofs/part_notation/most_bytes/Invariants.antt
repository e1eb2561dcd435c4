use Rattle.std.proofs.Common.{◌≡◌, ◌<◌, ◌+◌, ◌^◌, take}
use Rattle.std.specs.Prelude.{sum_by}
use Rattle.ly_places.specs.Private.Printing.{most_of}
use Rattle.ly_places.proofs.part_notation.most_bytes.Given as goal

-- those of the parts so far
abbrev pub invariant-loop-part : goal.invariant-loop-part
invariant-loop-part l = (l.most ≡ 1 + sum_by (most_of l.each) (take l.part-index l.parts)) × (l.most < 2 ^ 64)
