use Rattle.std.proofs.Common.{List, ℕ, length}
use Rattle.ly_lexread.specs.Action.{Effect, effect_of, no_effect}
use Rattle.ly_lexread.specs.Statements.{Statements}
use Rattle.ly_lexread.proofs.action.read_statements.Given as goal

-- the statements go on in what is left
abbrev pub invariant-loop-action : goal.invariant-loop-action
invariant-loop-action l = record {
  sound : (e : Effect) (rest : List ℕ) → Statements l.conditions l.extent (effect_of l.action) l.left e rest
      → Statements l.conditions l.extent no_effect l.text e rest;
  complete : (e : Effect) (rest : List ℕ) → Statements l.conditions l.extent no_effect l.text e rest
      → Statements l.conditions l.extent (effect_of l.action) l.left e rest;
}

abbrev pub decreases-loop-action : goal.decreases-loop-action
decreases-loop-action l = length l.left
