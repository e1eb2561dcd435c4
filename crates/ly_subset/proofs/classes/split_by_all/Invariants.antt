use Rattle.std.proofs.Common.{◌≡◌, length}
use Rattle.ly_subset.specs.Private.Classes.{IsSplitBy}
use Rattle.ly_subset.proofs.classes.split_by_all.Given as goal

-- the positions before this one have split the classes
abbrev pub invariant-loop-number : goal.invariant-loop-number
invariant-loop-number l = record {
  split : IsSplitBy l.nfa l.number l.class_of.items;
  room : length l.names.items ≡ 512;
}
