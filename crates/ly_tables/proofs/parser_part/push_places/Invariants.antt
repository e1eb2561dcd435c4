use Rattle.std.proofs.Common.{◌≡◌, ◌++◌, drop}
use Rattle.ly_tables.proofs.parser_part.push_places.Given as goal

-- what is written and what is left are all
abbrev pub invariant-loop-place : goal.invariant-loop-place
invariant-loop-place l = l.out.items ++ drop l.place-index l.places ≡ l.initial.out.items ++ l.places
