-- Which bytes stand first in matches of rules that return their first byte.
use Rattle.std.specs.Prelude.{◌≡◌, ◌↔◌, ◌⊎◌, ◌<◌, ℕ, List, ◌∷◌, Bool, Option, Some, slice_get, length}
use Rattle.ly_base.specs.declared.scan_action.Emitted.TheVariants.{FirstByte}
use Rattle.ly_base.specs.declared.scan_action.ScanAction.{ScanAction}
use Rattle.ly_digraph.specs.Digraph.{Digraph, IsEdge}
use Rattle.ly_sets.specs.NumberSet.{Member, NumberSet}
use Rattle.ly_sets.specs.SetMatrix.{Matrix, row}
use Rattle.ly_subset.specs.Automaton.{Automaton, entry_at, next_by_class, next_of, rule_after, rule_of, start_of}
use Rattle.ly_counterexamples.specs.Private.Marks.{IsMarked}

-- the rule returns its first byte
abbrev pub ReturnsFirst : List ScanAction → ℕ → Type 0
ReturnsFirst actions i = (a : ScanAction) × (slice_get actions i ≡ Some a) × (a.emits ≡ FirstByte)

-- some rule is there, and returns its first byte
abbrev pub HasFirst : List ScanAction → Option ℕ → Type 0
HasFirst actions o = (i : ℕ) × (o ≡ Some i) × ReturnsFirst actions i

-- some string leads from the state to such a rule
abbrev pub LeadsToFirst : List ScanAction → Automaton → ℕ → Type 0
LeadsToFirst actions A s = (w : List ℕ) × HasFirst actions (rule_after A (Some s) w)

-- the byte leads from the state to one from which some string does
abbrev pub BeginsFirst : List ScanAction → Automaton → ℕ → ℕ → Type 0
BeginsFirst actions A s b = (t : ℕ) × (next_of A (Some s) b ≡ Some t) × LeadsToFirst actions A t

-- the byte leads from the state to one that is marked
abbrev pub BeginsMarked : List Bool → Automaton → ℕ → ℕ → Type 0
BeginsMarked marks A s b = (t : ℕ) × (next_of A (Some s) b ≡ Some t) × IsMarked marks t

-- the byte has this number, and does so
abbrev pub BeginsWith : List Bool → Automaton → ℕ → ℕ → ℕ → Type 0
BeginsWith marks A s k b = (b ≡ k) × BeginsMarked marks A s k

-- the byte leads from the state of an entry to one from which some string leads to such a rule
abbrev pub BeginsAt : List ScanAction → Automaton → ℕ → ℕ → Type 0
BeginsAt actions A k b = (s : ℕ) × (entry_at A.entries k ≡ Some s) × BeginsFirst actions A s b

-- some string that begins with the byte leads from a start to a rule that returns its first byte
abbrev pub StandsFirst : List ScanAction → Automaton → ℕ → Type 0
StandsFirst actions A b = (c : ℕ) × (line : Bool) × (w : List ℕ)
    × HasFirst actions (rule_after A (start_of A c line) (b ∷ w))

-- the class leads from the state to another one
abbrev pub MovesByClass : Automaton → ℕ → ℕ → ℕ → ℕ → Type 0
MovesByClass A s c i j = (i ≡ s) × (next_by_class A s c ≡ Some j)

-- some class does
abbrev pub Moves : Automaton → ℕ → ℕ → ℕ → Type 0
Moves A s i j = (c : ℕ) × (c < A.classes) × MovesByClass A s c i j

-- just these edges were added
pub record AreEdgesAdded (P : ℕ → ℕ → Type 0) (old new : Digraph) : Type 0 where
  pub nodes : new.nodes ≡ old.nodes
  pub exact : (i j : ℕ) → IsEdge new i j ↔ (IsEdge old i j ⊎ P i j)

-- of some steps one before the one of this number adds the edge
abbrev pub ByEdgeStepBefore : (ℕ → ℕ → ℕ → Type 0) → ℕ → ℕ → ℕ → Type 0
ByEdgeStepBefore P n i j = (k : ℕ) × (k < n) × P k i j

-- 0 is in the row
abbrev pub HasZero : List NumberSet → ℕ → Type 0
HasZero sets s = Member (row sets s) 0

-- the row has this number, and 0 is in it
abbrev pub IsRowWithZero : List NumberSet → ℕ → ℕ → Type 0
IsRowWithZero sets k s = (s ≡ k) × HasZero sets k

-- the edges are the moves of an automaton
pub record AreMoves (A : Automaton) (g : Digraph) : Type 0 where
  pub nodes : g.nodes ≡ length A.rules
  pub exact : (i j : ℕ) → IsEdge g i j ↔ ByEdgeStepBefore (Moves A) (length A.rules) i j

-- 0 is in the rows of the states before one whose rules return their first byte
pub record AreFirstBefore (actions : List ScanAction) (A : Automaton) (n : ℕ) (m : Matrix) : Type 0 where
  pub width : m.width ≡ 1
  pub rows : length m.sets ≡ length A.rules
  pub exact : (s : ℕ) → Member (row m.sets s) 0 ↔ ((s < n) × HasFirst actions (rule_of A (Some s)))
