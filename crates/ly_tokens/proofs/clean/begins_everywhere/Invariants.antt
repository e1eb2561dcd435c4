use Rattle.ly_tokens.specs.Private.Clean.{BeginsEverywhere}
use Rattle.ly_tokens.proofs.clean.begins_everywhere.Given as goal

-- so it is in the conditions so far
abbrev pub invariant-loop-condition : goal.invariant-loop-condition
invariant-loop-condition g l
    = BeginsEverywhere (record { walk = g.S.Steps.walk l.steps; cut = g.S.Steps.cut_of l.steps }) l.condition
