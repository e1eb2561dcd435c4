-- Transitions over the same nonterminal that lead alike, and the nodes that stand for them.
use Rattle.std.specs.Prelude.{◌≡◌, ◌≢◌, ◌↔◌, ◌++◌, ◌⊎◌, ◌<◌, ◌≤◌, ◌+◌, ◌-◌, ℕ, List, [], ◌∷◌, Contains, Some, length}
use Rattle.std.specs.Prelude.{slice_get}
use Rattle.std.specs.Prelude.{slice_index_or, slice_set}
use Rattle.ly_join.specs.Grammar.{Grammar, IsRule, GrammarRule, Symbol, terminal}
use Rattle.ly_lr0.specs.Automaton.{Lr0Automaton, goto_of}
use Rattle.ly_relate.specs.Private.Gotos.{Numbering}
use Rattle.ly_relate.specs.Related.{Goto}

-- the number is that of a rule of the nonterminal
abbrev pub IsRuleOf : Lr0Automaton → ℕ → ℕ → Type 0
IsRuleOf M A q = (r : GrammarRule) × IsRule M.grammar q r × (r.left ≡ A)

-- the body of the rule begins with a terminal
abbrev pub BeginsSolid : Grammar → ℕ → Type 0
BeginsSolid G p = (r : GrammarRule) → IsRule G p r → (t : ℕ) × (rest : List Symbol) × (r.body ≡ terminal t ∷ rest)

-- The rules of a nonterminal in two lists. All of the first begin with a terminal.
pub record AreParted (M : Lr0Automaton) (A : ℕ) (solid others : List ℕ) : Type 0 where
  pub all : (q : ℕ) → (Contains solid q ⊎ Contains others q) ↔ IsRuleOf M A q
  pub begin : (q : ℕ) → Contains solid q → BeginsSolid M.grammar q

-- for each nonterminal the rules that begin with a terminal, and the others
pub record RuleLists : Type 0 where
  pub solid : List (List ℕ)
  pub others : List (List ℕ)

abbrev pub solid_of : RuleLists → ℕ → List ℕ
solid_of r A = slice_index_or r.solid A []

abbrev pub others_of : RuleLists → ℕ → List ℕ
others_of r A = slice_index_or r.others A []

-- the rules of all nonterminals of an automaton's grammar
pub record AreAllParted (M : Lr0Automaton) (r : RuleLists) : Type 0 where
  pub solid : M.grammar.accept < length r.solid
  pub others : M.grammar.accept < length r.others
  pub each : (A : ℕ) → A ≤ M.grammar.accept → AreParted M A (solid_of r A) (others_of r A)

-- the first symbol of a rule leads from two states to the same one
abbrev pub LeadsAlike : Lr0Automaton → ℕ → ℕ → ℕ → Type 0
LeadsAlike M k p q = (r : GrammarRule) (X : Symbol) (rest : List Symbol) → IsRule M.grammar k r → r.body ≡ X ∷ rest
    → goto_of M p X ≡ goto_of M q X

-- and those of all of these
abbrev pub LeadAlike : Lr0Automaton → List ℕ → ℕ → ℕ → Type 0
LeadAlike M rules p q = (k : ℕ) → Contains rules k → LeadsAlike M k p q

-- two transitions are over one nonterminal, and these of its rules lead alike from where they begin
abbrev pub AreGroupable : Numbering → (ℕ → List ℕ) → ℕ → ℕ → Type 0
AreGroupable n solid i j = (x : Goto) × (y : Goto) × (slice_get n.gotos i ≡ Some x) × (slice_get n.gotos j ≡ Some y)
    × (x.symbol ≡ y.symbol) × LeadAlike n.automaton (solid x.symbol) x.from y.from

-- The node of each transition, for each node past all of them the first that it stands for, and how many nodes there
-- are.
pub record Grouping : Type 0 where
  pub nodes : List ℕ
  pub leaders : List ℕ
  pub end : ℕ

-- the node that stands for a transition
abbrev pub node_of : Grouping → ℕ → ℕ
node_of w j = slice_index_or w.nodes j 0

-- the first transition for which a node past all of them stands
abbrev pub leader_of : Grouping → ℕ → ℕ
leader_of w g = slice_index_or w.leaders g 0

-- node count + g stands for transition j, and first for another one that leads alike
pub record IsJoined (n : Numbering) (solid : ℕ → List ℕ) (count : ℕ) (w : Grouping) (j g : ℕ) : Type 0 where
  pub within : g < length w.leaders
  pub node : node_of w j ≡ length n.gotos + g
  pub leader : leader_of w g < count
  pub leads : node_of w (leader_of w g) ≡ length n.gotos + g
  pub alike : AreGroupable n solid (leader_of w g) j

-- each of the first transitions stands for itself, or is joined to one that leads alike
pub record AreGroups (n : Numbering) (solid : ℕ → List ℕ) (count : ℕ) (w : Grouping) : Type 0 where
  pub long : length w.nodes ≡ count
  pub end : w.end ≡ length n.gotos + length w.leaders
  pub each : (j : ℕ) → j < count → (node_of w j ≡ j) ⊎ ((g : ℕ) × IsJoined n solid count w j g)

-- the number is the transition's own, or a node for which it is joined to an earlier one
abbrev pub IsNodeFor : Numbering → (ℕ → List ℕ) → Grouping → ℕ → ℕ → Type 0
IsNodeFor n solid w j node = (node ≡ j) ⊎ ((g : ℕ) × (g < length w.leaders) × (node ≡ length n.gotos + g)
    × (leader_of w g < j) × (node_of w (leader_of w g) ≡ node) × AreGroupable n solid (leader_of w g) j)

-- The number is the node of transition j, which is past it: it was so before, or it stood for itself, and has the next
-- node now.
pub record IsNodeBeside (old new : Grouping) (j node : ℕ) : Type 0 where
  pub is : node_of new j ≡ node
  pub how : ((node_of old j ≢ j) × (new ≡ old)) ⊎ ((node_of old j ≡ j) × (new ≡ record {
    nodes = slice_set old.nodes j
        old.end;
    leaders = old.leaders ++ j ∷ [];
    end = old.end + 1;
  }))

-- the transition is the first that its node stands for
abbrev pub Leads : Grouping → ℕ → Type 0
Leads w j = (node_of w j < length w.nodes)
    ⊎ ((length w.nodes ≤ node_of w j) × (leader_of w (node_of w j - length w.nodes) ≡ j))
