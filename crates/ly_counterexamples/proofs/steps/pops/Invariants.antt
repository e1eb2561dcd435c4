use Rattle.std.proofs.Common.{◌≡◌, ◌↔◌, Contains, take}
use Rattle.ly_counterexamples.specs.declared.steps.Pop.{Pop}
use Rattle.ly_counterexamples.specs.Private.Steps.{IsRelated}
use Rattle.ly_counterexamples.proofs.ClaimLemmas.{pop_from}
use Rattle.ly_counterexamples.proofs.steps.pops.Given as goal

-- those from the predecessors so far
abbrev pub invariant-loop-predecessor : goal.invariant-loop-predecessor
invariant-loop-predecessor l = (p : Pop) → Contains l.found.items p
    ↔ IsRelated (λ q r. pop_from l.symbol l.popped q ≡ r) (take l.predecessor-index l.predecessor-items) p
