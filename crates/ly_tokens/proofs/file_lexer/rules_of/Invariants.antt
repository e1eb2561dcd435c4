use Rattle.std.proofs.Common.{◌≡◌, map, option_map, take}
use Rattle.ly_tokens.proofs.file_lexer.rules_of.Given as goal

-- the rules so far are those of the first states
abbrev pub invariant-loop-state : goal.invariant-loop-state
invariant-loop-state l = map (option_map (λ r. r.0)) l.rules.items ≡ take l.state l.dfa.rules
