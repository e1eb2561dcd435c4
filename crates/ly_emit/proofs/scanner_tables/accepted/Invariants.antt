use Rattle.std.proofs.Common.{◌≡◌, map, take}
use Rattle.std.specs.Option.{option_map}
use Rattle.ly_emit.proofs.scanner_tables.accepted.Given as goal

-- the rules of the states before this one are listed
abbrev pub invariant-loop-state : goal.invariant-loop-state
invariant-loop-state l = map (option_map (λ p. p.0)) l.rules.items ≡ take l.state l.dfa.rules
