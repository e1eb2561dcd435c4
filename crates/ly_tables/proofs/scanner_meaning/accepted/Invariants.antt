use Rattle.std.proofs.Common.{◌≡◌, take, map}
use Rattle.std.specs.Option.{option_map}
use Rattle.ly_tables.specs.Private.Meaning.{counted_meant}
use Rattle.ly_tables.proofs.scanner_meaning.accepted.Given as goal

-- those so far
abbrev pub invariant-loop-number : goal.invariant-loop-number
invariant-loop-number l = map (option_map (λ p. p.0)) l.out.items ≡ map counted_meant (take l.number-index l.numbers)
