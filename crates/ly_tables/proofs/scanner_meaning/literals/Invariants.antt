use Rattle.std.proofs.Common.{◌≡◌, take, map}
use Rattle.ly_tables.proofs.scanner_meaning.literals.Given as goal

-- those so far
abbrev pub invariant-loop-number : goal.invariant-loop-number
invariant-loop-number l = map (λ t. t.0) l.out.items ≡ take l.number-index l.numbers
