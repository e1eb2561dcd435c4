use Rattle.std.proofs.Common.{◌≡◌, ◌∷◌, drop}
use Rattle.ly_subset.specs.Private.Packed.{pack_blocks, packed_with}
use Rattle.ly_subset.proofs.packed.pack_blocks.Given as goal

-- with the numbers that are left it becomes the packed list
abbrev pub invariant-loop-number : goal.invariant-loop-number
invariant-loop-number l = packed_with l.packing (drop l.number-index l.numbers) ≡ 0 ∷ pack_blocks l.numbers
