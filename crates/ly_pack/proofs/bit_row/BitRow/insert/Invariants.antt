use Rattle.std.proofs.Common.{◌≡◌, ◌+◌, ◌-◌, ℕ, length}
use Rattle.ly_pack.specs.Private.Bits.{taken}
use Rattle.ly_pack.proofs.bit_row.BitRow.insert.Given as goal

abbrev pub invariant-loop-self : goal.invariant-loop-self
invariant-loop-self l = (k : ℕ) → taken l.self.words.items k ≡ taken l.initial.self.words.items k

abbrev pub decreases-loop-self : goal.decreases-loop-self
decreases-loop-self l = l.word + 1 - length l.self.words.items
