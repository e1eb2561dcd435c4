use Rattle.std.proofs.Common.{◌↔◌, ◌⊎◌, Contains, take}
use Rattle.ly_counterexamples.specs.declared.claim.Demand.{Demand}
use Rattle.ly_counterexamples.specs.Private.Steps.{IsRelated, IsClimbOfFirst, IsWithFirst, IsWithSecond}
use Rattle.ly_counterexamples.proofs.steps.climbs.Given as goal

-- those by the claims for the rule of the conflict so far
abbrev pub invariant-loop-first : goal.invariant-loop-first
invariant-loop-first l = (e : Demand) → Contains l.demands.items e
    ↔ IsRelated (IsWithFirst l.demand) (take l.first-index l.first-items) e

-- all of these, and those by the claims so far for what stands against it
abbrev pub invariant-loop-second : goal.invariant-loop-second
invariant-loop-second l = (e : Demand) → Contains l.demands.items e
    ↔ (IsClimbOfFirst l.ground.lr0.now l.fn.terminal.0 l.demand e
    ⊎ IsRelated (IsWithSecond l.demand) (take l.second-index l.second-items) e)
