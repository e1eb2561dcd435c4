use Rattle.std.proofs.Common.{◌≡◌, ◌<◌, ◌+◌, ◌*◌, ℕ, slice_index}
use Rattle.std.specs.Int.{bit_at}
use Rattle.ly_pack.specs.Private.Bits.{taken}
use Rattle.ly_pack.proofs.bit_row.BitRow.taken_bases.Given as goal

abbrev pub invariant-loop-column : goal.invariant-loop-column
invariant-loop-column l = record {
  free : (i : ℕ) → i < 64 → bit_at l.taken i ≡ 0 → (j : ℕ) → j < l.column-index
      → taken l.self.words.items (64 * l.word + i + slice_index l.columns j) ≡ 0;
  some : (i : ℕ) → i < 64 → bit_at l.taken i ≡ 1 → (j : ℕ) × (j < l.column-index)
      × (taken l.self.words.items (64 * l.word + i + slice_index l.columns j) ≡ 1);
}
