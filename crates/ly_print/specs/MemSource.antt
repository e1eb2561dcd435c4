-- The contents of a MemSource.
use Rattle.std.specs.Prelude.{ℕ, List, Option}
use Rattle.ly_print.specs.declared.memory.MemSource.{MemSource}

-- the bytes that are not read yet
abbrev pub unread : MemSource → List ℕ
unread s = s.rest.now

-- the number of bytes that it gives before it fails, if it is set to fail
abbrev pub gives_at_most : MemSource → Option ℕ
gives_at_most s = s.left

-- the number of calls that failed
abbrev pub read_failures : MemSource → ℕ
read_failures s = s.failures
