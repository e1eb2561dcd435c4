use Rattle.std.proofs.Common.{take}
use Rattle.ly_ere.specs.Definitions.{AreLightNames, named_texts}
use Rattle.ly_ere.specs.Private.Definitions.{ArePlacing}
use Rattle.ly_ere.proofs.definitions.place.Given as goal

-- those so far are placed
abbrev pub invariant-loop-number : goal.invariant-loop-number
invariant-loop-number l = record {
  placing : ArePlacing (named_texts l.list) (take l.number l.order) l.names l.numbers.items;
  light : AreLightNames l.limits.pattern_weight l.names;
}
