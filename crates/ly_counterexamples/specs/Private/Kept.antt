-- Demands whose states and items are there.
use Rattle.std.specs.Prelude.{◌<◌, ◌≤◌, length}
use Rattle.ly_join.specs.Grammar.{Grammar, IsRule, GrammarRule}
use Rattle.ly_lr0.specs.Automaton.{Lr0Automaton}
use Rattle.ly_lr0.specs.declared.item.Item.{Item}
use Rattle.ly_counterexamples.specs.declared.claim.Claim.{Claim}
use Rattle.ly_counterexamples.specs.declared.claim.Claim.TheVariants.{InCore, Settled, With}
use Rattle.ly_counterexamples.specs.declared.claim.Demand.{Demand}

-- the rule is kept, and the dot isn't past its body
abbrev pub IsKeptItem : Grammar → Item → Type 0
IsKeptItem G i = (r : GrammarRule) × IsRule G i.rule r × (i.dot ≤ length r.body)

abbrev pub IsKeptClaim : Grammar → Claim → Type 0
IsKeptClaim G Settled = Unit {0}
IsKeptClaim G (InCore i) = IsKeptItem G i
IsKeptClaim G (With i) = IsKeptItem G i

pub record IsKeptDemand (M : Lr0Automaton) (d : Demand) : Type 0 where
  pub state : d.state.0 < length M.states
  pub first : IsKeptClaim M.grammar d.first
  pub second : IsKeptClaim M.grammar d.second
