-- Demands on strings of symbols, and which demands imply others. A demand is a state that the string leads to and two
-- claims on what is valid there. Strings have their last symbol first.
use Rattle.std.specs.Prelude.{◌≡◌, ◌≢◌, ◌⊎◌, ◌<◌, ℕ, suc, List, ◌∷◌, Option, Some, None, AllPairs, Contains}
use Rattle.std.specs.Prelude.{drop, length}
use Rattle.ly_join.specs.Grammar.{Grammar, IsRule, GrammarRule, Symbol, nonterminal}
use Rattle.ly_grammar.specs.Derivations.{BeginsYield, IsNullable}
use Rattle.ly_lr0.specs.Automaton.{Lr0Automaton, goto_of, prefix_of}
use Rattle.ly_resolve.specs.Conflicts.{Conflict}
use Rattle.ly_lr0.specs.declared.item.Item.{Item}
use Rattle.ly_counterexamples.specs.declared.claim.Claim.{Claim}
use Rattle.ly_counterexamples.specs.declared.claim.Claim.TheVariants.{InCore, Settled, With}
use Rattle.ly_counterexamples.specs.declared.claim.Demand.{Demand}

-- The symbol follows the dot of the item, and the rest of the body follows the symbol.
pub record IsAhead (G : Grammar) (i : Item) (X : Symbol) (rest : List Symbol) : Type 0 where
  pub rule : GrammarRule
  pub is_rule : IsRule G i.rule rule
  pub ahead : drop i.dot rule.body ≡ X ∷ rest

-- the item has the left side of the rule after its dot, and the rest follows that
abbrev pub WaitsFor : Grammar → Item → ℕ → List Symbol → Type 0
WaitsFor G i q rest = (r : GrammarRule) × IsRule G q r × IsAhead G i (nonterminal r.left) rest

-- rule 0 is begun in state 0, any other rule in the states with a transition over its left side
abbrev pub IsBegun : Lr0Automaton → ℕ → ℕ → Type 0
IsBegun M s q = ((q ≡ 0) × (s ≡ 0))
    ⊎ ((r : GrammarRule) × IsRule M.grammar q r × (x : ℕ) × (goto_of M s (nonterminal r.left) ≡ Some x))

-- In a state, a claim on a rule with nothing before its dot follows from another claim. The rule is valid with the
-- terminal if an item has its left side after the dot, and either the terminal begins what follows that, or what
-- follows is nullable and the item is valid with the terminal. The rule is in the core if it is begun in the state.
abbrev pub ClimbsTo : Lr0Automaton → ℕ → ℕ → Claim → Claim → Type 0
ClimbsTo M t s (With q) (InCore i) =
    (q.dot ≡ 0) × (rest : List Symbol) × WaitsFor M.grammar i q.rule rest × BeginsYield M.grammar rest t
ClimbsTo M t s (With q) (With i) =
    (q.dot ≡ 0) × (rest : List Symbol) × WaitsFor M.grammar i q.rule rest × IsNullable M.grammar rest
ClimbsTo M t s (InCore q) Settled = (q.dot ≡ 0) × IsBegun M s q.rule
ClimbsTo M t s _ _ = ⊥

-- the dot of the first item is after the symbol, and that of the second one before it
abbrev pub IsBefore : Grammar → Symbol → Item → Item → Type 0
IsBefore G X i j = (i.rule ≡ j.rule) × (i.dot ≡ suc j.dot) × (rest : List Symbol) × IsAhead G j X rest

-- a claim on a string that ends in the symbol follows from another claim on the string without it
abbrev pub PopsTo : Grammar → Symbol → Claim → Claim → Type 0
PopsTo G X (With i) (With j) = IsBefore G X i j
PopsTo G X (InCore i) (InCore j) = IsBefore G X i j
PopsTo G X Settled Settled = Unit {0}
PopsTo G X _ _ = ⊥

-- a demand follows from another one on the same string
abbrev pub IsClimb : Lr0Automaton → ℕ → Demand → Demand → Type 0
IsClimb M t d e = (e.state ≡ d.state) × ((ClimbsTo M t d.state.0 d.first e.first × (e.second ≡ d.second))
    ⊎ (ClimbsTo M t d.state.0 d.second e.second × (e.first ≡ d.first)))

-- a demand on a string that ends in the symbol follows from another one on the string without it
abbrev pub IsPop : Lr0Automaton → Symbol → Demand → Demand → Type 0
IsPop M X d e = (goto_of M e.state.0 X ≡ Some d.state.0) × PopsTo M.grammar X d.first e.first
    × PopsTo M.grammar X d.second e.second

-- a demand follows from another one, with or without a symbol being popped
abbrev pub IsStep : Lr0Automaton → ℕ → Option Symbol → Demand → Demand → Type 0
IsStep M t None d e = IsClimb M t d e
IsStep M t (Some X) d e = IsPop M X d e

-- demands that a search finds from one, step by step
pub data LeadsTo (M : Lr0Automaton) (t : ℕ) (from : Demand) : Demand → Type 0 where
  at_start : LeadsTo M t from from
  by_step : {d e : Demand} (popped : Option Symbol) → LeadsTo M t from d → IsStep M t popped d e → LeadsTo M t from e

-- From a demand of the conflict, more than n demands are found. The demand is on strings with the core of the
-- conflict's prefix, and it claims that the conflict's rule is complete and valid with the terminal.
pub record HasMoreDemands (M : Lr0Automaton) (c : Conflict) (n : ℕ) : Type 0 where
  pub from : Demand
  pub state : prefix_of M from.state.0 ≡ c.prefix
  pub item : Item
  pub first : from.first ≡ With item
  pub rule : item.rule ≡ c.rule
  pub demands : List Demand
  pub count : n < length demands
  pub apart : AllPairs (λ d e. d ≢ e) demands
  pub follow : (d : Demand) → Contains demands d → LeadsTo M c.terminal from d
