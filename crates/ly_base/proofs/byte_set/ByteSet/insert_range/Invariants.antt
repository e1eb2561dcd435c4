use Rattle.std.proofs.Common.{◌≡◌, ℕ, nat_le, nat_lt}
use Rattle.std.specs.Prelude.{◌||◌, ◌&&◌}
use Rattle.ly_base.specs.ByteSet.{has}
use Rattle.ly_base.proofs.byte_set.ByteSet.insert_range.Given as goal

-- the bytes so far are in, and nothing else came
abbrev pub invariant-loop-byte : goal.invariant-loop-byte
invariant-loop-byte l = (b : ℕ)
    → has l.self b ≡ (nat_le l.first b && nat_lt b l.byte && nat_le b l.last || has l.fn.self b)
