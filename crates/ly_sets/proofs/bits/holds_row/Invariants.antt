use Rattle.std.proofs.Common.{◌≡◌, ◌+◌, ◌<◌, ℕ, get_or, bit_or}
use Rattle.ly_sets.proofs.bits.holds_row.Given as goal

-- the words before this one have nothing that isn't in the other row
abbrev pub invariant-loop-word : goal.invariant-loop-word
invariant-loop-word l = (k : ℕ) → k < l.word
    → bit_or (get_or l.words (l.of + k) 0) (get_or l.words (l.from + k) 0) ≡ get_or l.words (l.of + k) 0
