use Rattle.std.proofs.Common.{◌≡◌, ◌-◌, length}
use Rattle.ly_pack.proofs.bit_row.BitRow.skip_full.Given as goal

abbrev pub invariant-loop-self : goal.invariant-loop-self
invariant-loop-self l = l.self.words ≡ l.initial.self.words

abbrev pub decreases-loop-self : goal.decreases-loop-self
decreases-loop-self l = length l.self.words.items - l.self.full
