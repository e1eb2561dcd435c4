-- The members of a set of bytes.
use Rattle.std.specs.Prelude.{ℕ, ◌/◌, ◌%◌, List, Bool, nat_eq, slice_index, filter}
use Rattle.std.specs.List.{range_with_len}
use Rattle.std.specs.Int.{bit_at}
use Rattle.ly_base.specs.declared.byte_set.ByteSet.{ByteSet}

-- the byte values, in order
unfoldable pub all_bytes : List ℕ
all_bytes = range_with_len 0 256

-- the bytes that pass a test, in order
abbrev pub bytes_where : (ℕ → Bool) → List ℕ
bytes_where test = filter test all_bytes

-- the number is a member
unfoldable pub has : ByteSet → ℕ → Bool
has s b = nat_eq (bit_at (slice_index s.words (b / 64)) (b % 64)) 1

-- the members, in order
abbrev pub members : ByteSet → List ℕ
members s = bytes_where (has s)
