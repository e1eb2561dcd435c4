-- The first demand of a search: the one that a conflict's counterexamples meet.
use Rattle.std.specs.Prelude.{◌≡◌, ◌≤◌, ℕ, List, length}
use Rattle.ly_join.specs.Grammar.{Grammar, IsRule, GrammarRule, Symbol, terminal}
use Rattle.ly_grammar.specs.Items.{IsNextSymbol}
use Rattle.ly_lr0.specs.Automaton.{Lr0Automaton, Reaches, goto_of}
use Rattle.ly_resolve.specs.Actions.{Action, error, reduce, shift}
use Rattle.ly_resolve.specs.Conflicts.{Conflict}
use Rattle.ly_counterexamples.specs.Examples.{rival}
use Rattle.ly_counterexamples.specs.declared.claim.Claim.{Claim}
use Rattle.ly_counterexamples.specs.declared.claim.Claim.TheVariants.{Settled, With}
use Rattle.ly_counterexamples.specs.declared.claim.Demand.{Demand}

-- The claim is that the rule is complete and valid with the terminal.
pub record ClaimsWhole (G : Grammar) (p : ℕ) (c : Claim) : Type 0 where
  pub some : 1 ≤ p
  pub rule : GrammarRule
  pub is_rule : IsRule G p rule
  pub dot : ℕ
  pub end : dot ≡ length rule.body
  pub claim : c ≡ With (record { rule = p; dot = dot })

-- The claim for an action at strings with the core of a prefix.
abbrev pub ClaimsAction : Grammar → List Symbol → ℕ → Action → Claim → Type 0
ClaimsAction G prefix t shift c = (c ≡ Settled) × IsNextSymbol G prefix (terminal t)
ClaimsAction G prefix t (reduce p) c = ClaimsWhole G p c
ClaimsAction G prefix t error c = ⊥

-- The demand is the first one of the search for a counterexample of a conflict.
pub record Opens (M : Lr0Automaton) (c : Conflict) (d : Demand) : Type 0 where
  pub leads : Reaches (goto_of M) 0 c.prefix d.state.0
  pub first : ClaimsWhole M.grammar c.rule d.first
  pub second : ClaimsAction M.grammar c.prefix c.terminal (rival c.kind c.choice) d.second
