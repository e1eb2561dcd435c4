-- The sides of a pattern, as they are read.
use Rattle.ly_ere.specs.Grammar.{Sides}
use Rattle.ly_ere.specs.declared.sides.Uncut.{Uncut}

-- what was read, as sides
abbrev pub sides_read : Uncut → Sides
sides_read u = record { line_start = u.line_start; head = u.head; tail = u.tail }
