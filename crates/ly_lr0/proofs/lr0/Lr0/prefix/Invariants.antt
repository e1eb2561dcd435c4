use Rattle.std.proofs.Common.{◌≡◌, ◌≤◌, ◌++◌, length, map, slice_index_or, []}
use Rattle.ly_join.specs.Grammar.{symbol_of}
use Rattle.ly_lr0.specs.Private.Built.{link_of, prefixes_of}
use Rattle.ly_lr0.proofs.lr0.Lr0.prefix.Given as goal

-- what is left of the prefix is that of the state before
abbrev pub invariant-loop-state : goal.invariant-loop-state
invariant-loop-state l = record {
  within : l.state ≤ length l.self-inside.links.items;
  left : map symbol_of l.prefix.items ++ slice_index_or (prefixes_of (map link_of l.self-inside.links.items)) l.state []
      ≡ slice_index_or (prefixes_of (map link_of l.self-inside.links.items)) l.fn.state.0 [];
}

abbrev pub decreases-loop-state : goal.decreases-loop-state
decreases-loop-state l = l.state
