use Rattle.std.proofs.Common.{◌≡◌, ◌<◌, ◌++◌, length}
use Rattle.std.specs.Prelude.{All}
use Rattle.ly_ere.specs.Arena.{expressions, part_of}
use Rattle.ly_ere.specs.Private.Uses.{size_of_all, uses_of, uses_of_all}
use Rattle.ly_ere.proofs.uses.uses.Given as goal

-- what is found, and then what the open nodes use
abbrev pub invariant-loop-number : goal.invariant-loop-number
invariant-loop-number l = record {
  within : All (λ k. k < length l.nodes) l.pending.items;
  uses : l.found.items ++ uses_of_all (expressions l.nodes) l.pending.items ≡ uses_of (part_of
      (expressions l.nodes) l.root);
}

abbrev pub decreases-loop-number : goal.decreases-loop-number
decreases-loop-number l = size_of_all (expressions l.nodes) l.pending.items
