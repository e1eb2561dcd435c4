use Rattle.std.proofs.Common.{◌<◌, ◌*◌, ℕ}
use Rattle.ly_pack.specs.Private.Bits.{IsTakenAt}
use Rattle.ly_pack.proofs.bit_row.BitRow.first_fit.Given as goal

abbrev pub invariant-loop-word : goal.invariant-loop-word
invariant-loop-word l = (lower : ℕ) → lower < 64 * l.word → IsTakenAt l.self.words.items l.columns lower
