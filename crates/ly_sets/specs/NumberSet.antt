-- A row of words as a finite set of numbers: number n is bit n % 64 of word n / 64.
use Rattle.std.specs.Prelude.{◌≡◌, ◌<◌, ◌*◌, ◌/◌, ◌%◌, ◌==◌, ℕ, zero, suc, Bool, true, List, length, slice_index}
use Rattle.std.specs.Prelude.{if◌then◌else◌}
use Rattle.std.specs.Ordering.{nat_cmp}
use Rattle.std.specs.Int.{bit_at}
use Rattle.std.specs.FinSet as set
use lib.Lanes.{chunk}

-- a finite set of numbers
abbrev pub NumberSet : Type 0
NumberSet = set.FinSet nat_cmp

-- the number is a member
abbrev pub Member : NumberSet → ℕ → Type 0
Member s n = set.contains s n ≡ true

-- each member is below the width
abbrev pub AllBelow : ℕ → NumberSet → Type 0
AllBelow width s = (n : ℕ) → Member s n → n < width

-- whether the bit of a number is set in a row of words
abbrev pub has_bit : List ℕ → ℕ → Bool
has_bit words n = bit_at (slice_index words (n / 64)) (n % 64) == 1

-- the numbers below a bound that pass a test
unfoldable pub passing_below : (ℕ → Bool) → ℕ → NumberSet
passing_below p zero = set.empty
passing_below p (suc n) = if p n then set.insert (passing_below p n) n else passing_below p n

-- the numbers whose bits are set in a row of words
unfoldable pub set_of : List ℕ → NumberSet
set_of words = passing_below (has_bit words) (64 * length words)

-- the same for the row of `len` words from `start` on
abbrev pub row_set : ℕ → ℕ → List ℕ → NumberSet
row_set start len words = set_of (chunk start len words)
