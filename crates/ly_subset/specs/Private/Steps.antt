-- What makes the steps of sets short.
use Rattle.std.specs.Prelude.{ℕ, IfSome}
use Rattle.ly_position.specs.Nfa.{ReadsByte}
use Rattle.ly_subset.specs.Private.Chains.{AreChains}
use Rattle.ly_subset.specs.declared.construct.SetSteps.{SetSteps}

-- The chains are those of the automaton, and no position reads the byte that none is said to read.
pub record AreSteps (s : SetSteps) : Type 0 where
  pub firsts : AreChains s.nfa.now s.firsts.now
  pub unread : IfSome s.unread (λ b. (p : ℕ) → ReadsByte s.nfa.now p b → ⊥)
