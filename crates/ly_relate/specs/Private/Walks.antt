-- Walks over the bodies of rules.
use Rattle.std.specs.Prelude.{◌≡◌, ◌≢◌, ◌↔◌, ◌⊎◌, ◌<◌, ◌≤◌, ◌+◌, ℕ, List, length, Option, Some, None, drop, take}
use Rattle.std.specs.Prelude.{reverse}
use Rattle.std.specs.Prelude.{slice_get, slice_index_or, Contains}
use Rattle.ly_join.specs.Grammar.{Grammar, Symbol, nonterminal, terminal}
use Rattle.ly_digraph.specs.Digraph.{Digraph, IsEdge}
use Rattle.ly_grammar.specs.Derivations.{IsNullable}
use Rattle.ly_lr0.specs.Automaton.{Lr0Automaton, Reaches, goto_of}
use Rattle.ly_relate.specs.Private.Gotos.{Numbering}
use Rattle.ly_relate.specs.Private.Groups.{Grouping, RuleLists, Leads, node_of, others_of, solid_of}
use Rattle.ly_relate.specs.Relations.{Includes, LooksBack}
use Rattle.ly_relate.specs.Related.{Goto, Lookback}

-- edges from a node were added, to those nodes that meet a test
abbrev pub AreEdgesFrom : Digraph → Digraph → ℕ → (ℕ → Type 0) → Type 0
AreEdgesFrom old new n P = (i j : ℕ) → IsEdge new i j ↔ (IsEdge old i j ⊎ ((i ≡ n) × P j))

-- edges to a node were added, from those nodes that meet a test
abbrev pub AreEdgesTo : Digraph → Digraph → ℕ → (ℕ → Type 0) → Type 0
AreEdgesTo old new n P = (i j : ℕ) → IsEdge new i j ↔ (IsEdge old i j ⊎ ((j ≡ n) × P i))

-- For each node there is an edge to the one that it was last led to, if any.
pub record AreLast (g : Digraph) (last : List (Option ℕ)) : Type 0 where
  pub long : length last ≡ g.nodes
  pub edges : (i j : ℕ) → slice_get last i ≡ Some (Some j) → IsEdge g i j

-- lookbacks to a node were added, of those states and rules that meet a test
abbrev pub AreBack : List Lookback → List Lookback → ℕ → (ℕ → ℕ → Type 0) → Type 0
AreBack old new n P = (s p m : ℕ) → Contains new (record { state = s; rule = p; node = m })
    ↔ (Contains old (record { state = s; rule = p; node = m }) ⊎ ((m ≡ n) × P s p))

-- From a state the first symbols of a body lead to another, over these states, one before each of them.
pub record IsPassed (M : Lr0Automaton) (from : ℕ) (body : List Symbol) (count : ℕ) (path : List ℕ) (s : ℕ) : Type 0
  where
    pub long : length path ≡ count
    pub states : (k : ℕ) → k < count → Reaches (goto_of M) from (reverse (take k body)) (slice_index_or path k 0)
    pub end : Reaches (goto_of M) from (reverse (take count body)) s

-- From a state the first of the symbols lead to one that the next doesn't leave.
pub record IsStopped (M : Lr0Automaton) (from : ℕ) (body : List Symbol) : Type 0 where
  pub place : ℕ
  pub state : ℕ
  pub symbol : Symbol
  pub is : slice_get body place ≡ Some symbol
  pub leads : Reaches (goto_of M) from (reverse (take place body)) state
  pub stops : goto_of M state symbol ≡ None

-- At a place of a body stands the nonterminal of a transition that leaves the state before it, and what stands behind
-- it
-- is nullable.
pub record IsIncludedAt (G : Grammar) (gotos : List Goto) (body : List Symbol) (path : List ℕ) (place i : ℕ) : Type 0
  where
    pub within : place < length body
    pub goto : Goto
    pub is : slice_get gotos i ≡ Some goto
    pub symbol : slice_get body place ≡ Some (nonterminal goto.symbol)
    pub state : slice_index_or path place 0 ≡ goto.from
    pub nullable : IsNullable G (drop (place + 1) body)

-- transition i includes transition j by a rule
abbrev pub IsIncludingBy : Lr0Automaton → List Goto → ℕ → ℕ → ℕ → Type 0
IsIncludingBy M gotos p i j = (x : Goto) × (y : Goto) × (slice_get gotos i ≡ Some x) × (slice_get gotos j ≡ Some y)
    × (is : Includes M.grammar (goto_of M) x.from x.symbol y.from y.symbol) × (is.number ≡ p)

-- the rule, complete in the state, looks back to transition n
abbrev pub IsLookingBack : Lr0Automaton → List Goto → ℕ → ℕ → ℕ → Type 0
IsLookingBack M gotos n s p =
    (x : Goto) × (slice_get gotos n ≡ Some x) × LooksBack M.grammar (goto_of M) s p x.from x.symbol

-- by one of some rules
abbrev pub IncludesByOne : Numbering → List ℕ → ℕ → ℕ → Type 0
IncludesByOne n rules m i = (p : ℕ) × Contains rules p × IsIncludingBy n.automaton n.gotos p i m

abbrev pub LooksBackByOne : Numbering → List ℕ → ℕ → ℕ → ℕ → Type 0
LooksBackByOne n rules m s p = Contains rules p × IsLookingBack n.automaton n.gotos m s p

-- edges were added
abbrev pub AreEdgesBy : (ℕ → ℕ → Type 0) → Digraph → Digraph → Type 0
AreEdgesBy P old new = (i o : ℕ) → IsEdge new i o ↔ (IsEdge old i o ⊎ P i o)

-- lookbacks were added
abbrev pub AreBackBy : (ℕ → ℕ → ℕ → Type 0) → List Lookback → List Lookback → Type 0
AreBackBy P old new = (s p o : ℕ) → Contains new (record { state = s; rule = p; node = o })
    ↔ (Contains old (record { state = s; rule = p; node = o }) ⊎ P s p o)

-- where there is none
abbrev pub no_goto : Goto
no_goto = record { from = 0; symbol = 0; target = 0 }

-- of the rules of a transition's nonterminal those that are in a list
abbrev pub rules_at : Numbering → (ℕ → List ℕ) → ℕ → List ℕ
rules_at n rules j = rules (slice_index_or n.gotos j no_goto).symbol

-- What is said of transition j is said of a node: what is said by rules that begin with terminals of the one that
-- stands for it, if it is the first there, and the rest of itself.
abbrev pub IsSaidOf : Grouping → ℕ → Type 0 → Type 0 → ℕ → Type 0
IsSaidOf w j other solid o = (other × (o ≡ j)) ⊎ (solid × Leads w j × (o ≡ node_of w j))

-- an edge from what includes transition j
abbrev pub EdgeTo : Numbering → RuleLists → Grouping → ℕ → ℕ → ℕ → Type 0
EdgeTo n r w j i o = IsSaidOf w j (IncludesByOne n (rules_at n (others_of r) j) j i)
    (IncludesByOne n (rules_at n (solid_of r) j) j i) o

-- the edges that come with transition j: those, and one from its node to it
abbrev pub EdgeFrom : Numbering → RuleLists → Grouping → ℕ → ℕ → ℕ → Type 0
EdgeFrom n r w j i o = EdgeTo n r w j i o ⊎ ((i ≡ node_of w j) × (i ≢ j) × (o ≡ j))

-- the lookbacks that come with transition j
abbrev pub BackFrom : Numbering → RuleLists → Grouping → ℕ → ℕ → ℕ → ℕ → Type 0
BackFrom n r w j s p o = IsSaidOf w j (LooksBackByOne n (rules_at n (others_of r) j) j s p)
    (LooksBackByOne n (rules_at n (solid_of r) j) j s p) o

-- a nonterminal has a number up to this
abbrev pub HasNumberTo : ℕ → Symbol → Type 0
HasNumberTo most (terminal t) = Unit {0}
HasNumberTo most (nonterminal A) = A ≤ most
