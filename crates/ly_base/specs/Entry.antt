-- The targets of entries in a scanner's rows.
use Rattle.std.specs.Prelude.{ℕ, Option, Some, None, nat_lt, if◌then◌else◌}
use Rattle.ly_base.specs.declared.entry.Entry.{Entry}

-- the target state of an entry, if it has one
abbrev pub target_of : Entry → Option ℕ
target_of e = if nat_lt e.number 4294967295 then Some e.number else None
