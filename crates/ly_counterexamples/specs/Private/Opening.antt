-- What is claimed of the examples of a conflict.
use Rattle.ly_lr0.specs.Automaton.{Lr0Automaton}
use Rattle.ly_resolve.specs.Conflicts.{Conflict}
use Rattle.ly_counterexamples.specs.Examples.{rival}
use Rattle.ly_counterexamples.specs.Openings.{ClaimsAction}
use Rattle.ly_counterexamples.specs.declared.claim.Claim.{Claim}

-- what is claimed for what stands against the rule of a conflict
abbrev pub ClaimsRival : Lr0Automaton → Conflict → Claim → Type 0
ClaimsRival M c claim = ClaimsAction M.grammar c.prefix c.terminal (rival c.kind c.choice) claim
