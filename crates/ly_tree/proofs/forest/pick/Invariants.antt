use Rattle.std.proofs.Common.{◌≡◌, ◌+◌, ◌≤◌, ◌++◌, length, map, take, vec_len}
use Rattle.std.specs.Prelude.{vec_capacity}
use Rattle.ly_tree.specs.Private.Headed.{ref_at}
use Rattle.ly_tree.proofs.forest.pick.Given as goal

-- what stands at the places before this one is picked, and there is room for the others
abbrev pub invariant-loop-place : goal.invariant-loop-place
invariant-loop-place g l = record {
  picked : l.children.items ≡ l.fn.children.items
      ++ map (ref_at (map g.R.Refers.referred l.body)) (take l.place-index l.places);
  room : vec_len l.children + length l.places ≤ vec_capacity l.children + l.place-index;
}
