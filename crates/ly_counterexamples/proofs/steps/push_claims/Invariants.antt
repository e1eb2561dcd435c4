use Rattle.std.proofs.Common.{◌↔◌, ◌⊎◌, Contains, take}
use Rattle.ly_counterexamples.specs.declared.claim.Claim.{Claim}
use Rattle.ly_counterexamples.specs.Private.Steps.{IsRelated, IsClaimOn}
use Rattle.ly_counterexamples.proofs.steps.push_claims.Given as goal

-- the claims on the items so far, beside what was there
abbrev pub invariant-loop-item : goal.invariant-loop-item
invariant-loop-item l = (c : Claim) → Contains l.claims.items c ↔ (Contains l.initial.claims.items c
    ⊎ IsRelated (IsClaimOn l.reduced.grammar l.terminal.0) (take l.item-index l.item-items) c)
