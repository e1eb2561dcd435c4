-- Strings that meet a demand, and how many steps the derivations of their items take.
use Rattle.std.specs.Prelude.{ℕ, suc, ◌≤◌, List, [], ◌∷◌}
use Rattle.ly_join.specs.Grammar.{Grammar, IsRule, GrammarRule, Symbol, nonterminal}
use Rattle.ly_grammar.specs.Derivations.{First}
use Rattle.ly_lr0.specs.Automaton.{Lr0Automaton, Reaches, goto_of}
use Rattle.ly_counterexamples.specs.Demands.{IsAhead}
use Rattle.ly_lr0.specs.declared.item.Item.{Item}
use Rattle.ly_counterexamples.specs.declared.claim.Claim.{Claim}
use Rattle.ly_counterexamples.specs.declared.claim.Claim.TheVariants.{InCore, Settled, With}
use Rattle.ly_counterexamples.specs.declared.claim.Demand.{Demand}

abbrev pub item_at : ℕ → ℕ → Item
item_at p d = record { rule = p; dot = d }

-- The item of a rule with so many symbols before its dot is valid at the string with the lookahead, in so many steps.
pub data At (G : Grammar) : ℕ → List Symbol → ℕ → ℕ → ℕ → Type 0 where
  begun : At G 1 [] 0 0 0
  added : {n : ℕ} {g : List Symbol} {p d t q : ℕ} {r : GrammarRule} {rest : List Symbol} {u : ℕ} → At G n g p d t
      → IsRule G q r → IsAhead G (item_at p d) (nonterminal r.left) rest → First G rest t u → At G (suc n) g q 0 u
  passed : {n : ℕ} {g : List Symbol} {p d t : ℕ} {X : Symbol} {rest : List Symbol} → At G n g p d t
      → IsAhead G (item_at p d) X rest → At G (suc n) (X ∷ g) p (suc d) t

-- the claim is true of the string, in so many steps
abbrev pub IsTrueIn : Grammar → ℕ → ℕ → List Symbol → Claim → Type 0
IsTrueIn G t n g Settled = Unit {0}
IsTrueIn G t n g (InCore i) = (u : ℕ) × At G n g i.rule i.dot u
IsTrueIn G t n g (With i) = At G n g i.rule i.dot t

-- The string meets the demand.
pub record IsMet (M : Lr0Automaton) (t : ℕ) (g : List Symbol) (d : Demand) : Type 0 where
  pub leads : Reaches (goto_of M) 0 g d.state.0
  pub first : (n : ℕ) × IsTrueIn M.grammar t n g d.first
  pub second : (n : ℕ) × IsTrueIn M.grammar t n g d.second

-- rule 0 isn't claimed to be valid with the terminal
abbrev pub IsProper : Claim → Type 0
IsProper (With i) = 1 ≤ i.rule
IsProper _ = Unit {0}
