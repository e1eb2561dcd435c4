use Rattle.std.proofs.Common.{◌≡◌, length, take}
use Rattle.ly_lookahead.specs.Private.Sets.{AreLookedBack}
use Rattle.ly_lookahead.proofs.lookback.look_back.Given as goal

-- the lookbacks before this one were gone through
abbrev pub invariant-loop-index : goal.invariant-loop-index
invariant-loop-index l = record {
  long : length l.sets.sets ≡ length l.initial.sets.sets;
  united : AreLookedBack l.lr0 l.first (take l.index l.relations.lookbacks) l.initial.sets.sets l.sets.sets;
}
