-- How failures are counted, and which calls fail.
use Rattle.std.specs.Prelude.{◌≡◌, ℕ, ◌+◌, ◌%◌, ◌^◌, Bool, true, false, Result, Ok, Err, nat_eq, nat_lt, ◌&&◌}
use Rattle.std.specs.Prelude.{if◌then◌else◌, Option, None, Some, min, ◌-◌}

-- the count after one more failure; it wraps around at 2^64, so it is never the count before
abbrev pub next_count : ℕ → ℕ
next_count n = (n + 1) % 2 ^ 64

-- a write of `len` bytes failed: it returned an error, or took none of one or more bytes
abbrev pub write_failed : {E : Type 0} → Result ℕ E → ℕ → Bool
write_failed (Ok n) len = nat_eq n 0 && nat_lt 0 len
write_failed (Err e) len = true

-- a read failed
abbrev pub read_failed : {E : Type 0} → Result ℕ E → Bool
read_failed (Ok n) = false
read_failed (Err e) = true

-- the count grows by one exactly if the call failed
abbrev pub CountsFailure : Bool → ℕ → ℕ → Type 0
CountsFailure failed old new = new ≡ (if failed then next_count old else old)

-- n, or the number of bytes left before the failure if that is less
abbrev pub allowed : Option ℕ → ℕ → ℕ
allowed None n = n
allowed (Some left) n = min left n

-- the number of bytes left before the failure after n more
abbrev pub left_after : Option ℕ → ℕ → Option ℕ
left_after None n = None
left_after (Some left) n = Some (left - n)

-- What the error of a call says of its writer is the number of bytes written before the write that failed, if one did.
-- a write failed
abbrev pub IsFailedWrite : Option ℕ → Type 0
IsFailedWrite (Some written) = Unit {0}
IsFailedWrite None = ⊥

-- nothing was written: the error isn't that of a write
abbrev pub WroteNothing : Option ℕ → Type 0
WroteNothing (Some written) = ⊥
WroteNothing None = Unit {0}
