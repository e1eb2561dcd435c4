-- An automaton that was put together from a program.
use Rattle.std.specs.Prelude.{◌≡◌, ℕ, List, Option}
use Rattle.ly_ere.specs.declared.pattern.Rule.{Rule}
use Rattle.ly_position.specs.Private.Program.{ProgramStep}
use Rattle.ly_position.specs.Private.Link.{IsLinkOf}
use Rattle.ly_position.specs.Private.Starts.{StartsAt}
use Rattle.ly_position.specs.Nfa.{Nfa}
use Rattle.ly_position.specs.Position.{nfa_of}
use Rattle.ly_position.specs.declared.nfa.Fork.{Fork}
use Rattle.ly_position.specs.declared.nfa.Slot.{Slot}
use Rattle.ly_position.specs.declared.nfa.Target.{Target}

-- its positions and forks are those of the program, its start lists those of rules
pub record Assembled (g : List ProgramStep) (rules : List Rule) (entries : List (Option ℕ)) (conditions : ℕ)
    (nfa : Nfa) : Type 0 where
  pub targets : List Target
  pub slots : List Slot
  pub forks : List Fork
  pub starts : List (List ℕ)
  pub is : nfa ≡ nfa_of slots forks starts
  pub linked : IsLinkOf g targets slots forks
  pub begins : StartsAt g rules entries conditions starts
