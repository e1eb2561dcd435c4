use Rattle.std.proofs.Common.{◌≤◌, drop, length, map}
use Rattle.ly_join.specs.Grammar.{symbol_of}
use Rattle.ly_lr0.specs.Private.Items.{IsKernel}
use Rattle.ly_lr0.proofs.lr0.Lr0.core.Given as goal

-- the kernel is that of the symbols of the prefix that are behind
abbrev pub invariant-loop-left : goal.invariant-loop-left
invariant-loop-left l = record {
  within : l.left ≤ length l.prefix.items;
  kernel : IsKernel l.self-inside.reduced.now.grammar (drop l.left (map symbol_of l.prefix.items)) l.kernel.items;
}

abbrev pub decreases-loop-left : goal.decreases-loop-left
decreases-loop-left l = l.left
