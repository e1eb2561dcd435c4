-- The contents of a MemSink.
use Rattle.std.specs.Prelude.{ℕ, List, Option, vec_capacity}
use Rattle.ly_print.specs.declared.memory.MemSink.{MemSink}

-- the bytes that were written
abbrev pub written : MemSink → List ℕ
written s = s.bytes.items

-- the number of bytes that it takes before it fails, if it is set to fail
abbrev pub takes_at_most : MemSink → Option ℕ
takes_at_most s = s.left

-- the number of calls that failed
abbrev pub write_failures : MemSink → ℕ
write_failures s = s.failures

-- the number of bytes that it can hold without an allocation
abbrev pub room : MemSink → ℕ
room s = vec_capacity s.bytes
