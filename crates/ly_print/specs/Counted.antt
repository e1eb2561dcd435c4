-- The contents of a Counted.
use Rattle.std.specs.Prelude.{ℕ}
use Rattle.ly_print.specs.declared.counted.Counted.{Counted}

-- the reader or writer whose failures are counted
abbrev pub device_of : {T : Type 0} → Counted T → T
device_of c = c.inner

-- the number of calls that failed
abbrev pub failures_of : {T : Type 0} → Counted T → ℕ
failures_of c = c.failures
