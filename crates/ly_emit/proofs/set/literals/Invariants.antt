use Rattle.std.proofs.Common.{◌≡◌, length, map}
use Rattle.ly_emit.specs.Private.Listing.{AreLiterals}
use Rattle.ly_emit.proofs.set.literals.Given as goal

-- the terminals of the bytes before this one are listed
abbrev pub invariant-loop-byte : goal.invariant-loop-byte
invariant-loop-byte l = record {
  count : length l.literals.items ≡ l.byte;
  literals : AreLiterals l.spec.terminals (map (λ t. t.0) l.literals.items);
}
