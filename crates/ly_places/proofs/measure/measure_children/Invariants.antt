use Rattle.std.proofs.Common.{◌≡◌, ◌+◌, ◌≤◌, length, map, take, vec_len}
use Rattle.std.specs.Prelude.{vec_capacity}
use Rattle.ly_pack.specs.Values.{rule_from}
use Rattle.ly_places.specs.Private.Measured.{measure_of}
use Rattle.ly_parse.specs.Deriving.{shape_of_rule}
use Rattle.ly_places.proofs.measure.measure_children.Given as goal

-- the children before this one are measured, and there is room for the others
abbrev pub invariant-loop-child : goal.invariant-loop-child
invariant-loop-child l = record {
  measured : l.measures.items
      ≡ map (measure_of (shape_of_rule (map rule_from l.rules))) (take l.child-index l.forest.children);
  room : vec_len l.measures + length l.children ≤ vec_capacity l.measures + l.child-index;
}
