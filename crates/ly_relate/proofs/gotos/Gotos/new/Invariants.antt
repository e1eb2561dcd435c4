use Rattle.std.proofs.Common.{◌≡◌, ◌<◌, ◌≤◌, ℕ, map, take, length, slice_index_or}
use Rattle.ly_relate.specs.Private.Gotos.{count_before, gotos_from}
use Rattle.ly_relate.specs.Values.{goto_from}
use Rattle.ly_relate.proofs.gotos.Gotos.new.Given as goal

-- the transitions of the states before this one are numbered
abbrev pub invariant-loop-state : goal.invariant-loop-state
invariant-loop-state l = record {
  within : l.state ≤ length l.lr0.states;
  gotos : map goto_from l.gotos.items ≡ gotos_from 0 (take l.state l.lr0.states);
  long : length l.first.items ≡ l.state;
  first : (s : ℕ) → s < l.state → slice_index_or l.first.items s 0 ≡ count_before l.lr0 s;
}
