use Rattle.std.proofs.Common.{◌≡◌, length, map, take}
use Rattle.ly_lr0.specs.Transitions.{transition_of}
use Rattle.ly_lookahead.specs.Private.Sets.{AreInserted}
use Rattle.ly_lookahead.proofs.direct.insert_row.Given as goal

-- the terminals of the transitions before this one came into the row
abbrev pub invariant-loop-transition : goal.invariant-loop-transition
invariant-loop-transition l = record {
  long : length l.sets.sets ≡ length l.initial.sets.sets;
  width : l.sets.width ≡ l.initial.sets.width;
  inserted : AreInserted (map transition_of (take l.transition-index l.transition-items)) l.row l.initial.sets.sets
      l.sets.sets;
}
