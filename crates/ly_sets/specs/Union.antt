-- A union of words within one list.
use Rattle.std.specs.Prelude.{◌≡◌, ◌<◌, ◌≤◌, ◌+◌, ◌⊎◌, ℕ, Bool, true, false, List, slice_index, bit_or}
use lib.Lanes.{chunk, zip2}

-- The `len` words from `from` on were added to those from `to` on, and the others are unchanged. The result is whether
-- a word grew.
pub record IsUnited (old new : List ℕ) (to from len : ℕ) (result : Bool) : Type 0 where
  pub united : (k : ℕ) → k < len
      → slice_index new (to + k) ≡ bit_or (slice_index old (to + k)) (slice_index old (from + k))
  pub others : (k : ℕ) → (k < to) ⊎ (to + len ≤ k) → slice_index new k ≡ slice_index old k
  pub stayed : result ≡ false → (k : ℕ) → slice_index new k ≡ slice_index old k
  pub grew : result ≡ true → ((k : ℕ) → k < to + len → slice_index new k ≡ slice_index old k) → ⊥

-- a block of four words, united with another
abbrev pub united_block : List ℕ → ℕ → ℕ → List ℕ
united_block words to from = zip2 bit_or (chunk to 4 words) (chunk from 4 words)
