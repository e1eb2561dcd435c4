use Rattle.std.proofs.Common.{◌<◌, ℕ}
use Rattle.ly_tokens.specs.Private.Clean.{HasRule}
use Rattle.ly_tokens.proofs.clean.has_rules.Given as goal

-- so it is with the bytes so far
abbrev pub invariant-loop-byte : goal.invariant-loop-byte
invariant-loop-byte g l = (b : ℕ) → b < l.byte
    → HasRule (record { walk = g.S.Steps.walk l.steps; cut = g.S.Steps.cut_of l.steps }) l.condition l.line b
