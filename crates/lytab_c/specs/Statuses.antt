-- The numbers that calls return.
use Rattle.std.specs.Prelude.{ℕ}
use Rattle.lytab_c.specs.declared.status.Status.{Status}
use Rattle.lytab_c.specs.declared.status.Status.TheVariants.{Done, Fault, Memory, Misused, Refused, Short}

-- the numbers of `lytab_status` in C
abbrev pub status_number : Status → ℕ
status_number Done = 0
status_number Refused = 1
status_number Fault = 2
status_number Memory = 3
status_number Misused = 4
status_number Short = 5
