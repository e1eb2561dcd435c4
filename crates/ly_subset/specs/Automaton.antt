-- Deterministic automata over classes of bytes, with partial transitions (Hopcroft, Motwani, Ullman: Introduction to
-- Automata Theory, Languages, and Computation, 2.2).
use Rattle.std.specs.Prelude.{◌≡◌, ℕ, suc, ◌+◌, ◌*◌, ◌<◌, List, [], ◌∷◌, length, slice_get, slice_index_or}
use Rattle.std.specs.Prelude.{Bool, Option, Some, None, option_and_then, nat_lt, if◌then◌else◌}

-- The class of each byte and the number of classes; the accepted rule of each state, if it has one; and entries, each a
-- state or none: the starts, two for each condition, followed by a row of all classes for each state.
pub record Automaton : Type 0 where
  pub class_of : List ℕ
  pub classes : ℕ
  pub rules : List (Option ℕ)
  pub starts : ℕ
  pub entries : List (Option ℕ)

-- an entry; none past the last
abbrev pub entry_at : List (Option ℕ) → ℕ → Option ℕ
entry_at entries k = slice_index_or entries k None

-- Each byte has a class and each class a byte, each state has a row, and entries are states.
pub record IsAutomaton (A : Automaton) : Type 0 where
  pub bytes : length A.class_of ≡ 256
  pub used : (c : ℕ) → c < A.classes → (b : ℕ) × (slice_get A.class_of b ≡ Some c)
  pub class_within : (b c : ℕ) → slice_get A.class_of b ≡ Some c → c < A.classes
  pub full : length A.entries ≡ A.starts + length A.rules * A.classes
  pub within : (k s : ℕ) → entry_at A.entries k ≡ Some s → s < length A.rules

-- the index of a start of a condition: first that within a line, then that at the start of a line
abbrev pub start_place : ℕ → Bool → ℕ
start_place condition line = 2 * condition + (if line then 1 else 0)

-- the start state of a condition, if it has one
abbrev pub start_of : Automaton → ℕ → Bool → Option ℕ
start_of A condition line = if nat_lt (start_place condition line) A.starts
    then entry_at A.entries (start_place condition line) else None

-- the target of a state by a class
abbrev pub next_by_class : Automaton → ℕ → ℕ → Option ℕ
next_by_class A s c = entry_at A.entries (A.starts + (s * A.classes + c))

-- the state after a byte; none means that the walk has ended
abbrev pub next_of : Automaton → Option ℕ → ℕ → Option ℕ
next_of A None b = None
next_of A (Some s) b = option_and_then (next_by_class A s) (slice_get A.class_of b)

-- the accepted rule
abbrev pub rule_of : Automaton → Option ℕ → Option ℕ
rule_of A None = None
rule_of A (Some s) = slice_index_or A.rules s None

-- the state after a string
abbrev pub state_after : Automaton → Option ℕ → List ℕ → Option ℕ
state_after A s [] = s
state_after A s (b ∷ w) = state_after A (next_of A s b) w

-- the rule of the state after a string
abbrev pub rule_after : Automaton → Option ℕ → List ℕ → Option ℕ
rule_after A s w = rule_of A (state_after A s w)

-- some string leads from a start to the state (an accessible state)
abbrev pub IsReached : Automaton → ℕ → Type 0
IsReached A s = (c : ℕ) × (line : Bool) × (w : List ℕ) × (state_after A (start_of A c line) w ≡ Some s)

-- some string leads from the state to a rule (a co-accessible state)
abbrev pub LeadsToRule : Automaton → ℕ → Type 0
LeadsToRule A s = (w : List ℕ) × (i : ℕ) × (rule_after A (Some s) w ≡ Some i)

-- each state is reached and leads to a rule (a trim automaton)
pub record IsTrim (A : Automaton) : Type 0 where
  pub reached : (s : ℕ) → s < length A.rules → IsReached A s
  pub leads : (s : ℕ) → s < length A.rules → LeadsToRule A s

-- numbers in the order of their first appearance: a number other than 0 comes only after the one before it
abbrev pub AppearInOrder : List (Option ℕ) → Type 0
AppearInOrder entries = (k t : ℕ) → entry_at entries k ≡ Some (suc t) → (j : ℕ) × (j < k)
    × (entry_at entries j ≡ Some t)

-- Numbers below a count, in the order of their first appearance among the starts, followed by the rows of so many
-- classes. Each appears before its row.
pub record AreInOrder (starts classes count : ℕ) (entries : List (Option ℕ)) : Type 0 where
  pub within : (k s : ℕ) → entry_at entries k ≡ Some s → s < count
  pub in_order : AppearInOrder entries
  pub before_row : (s : ℕ) → s < count → (k : ℕ) × (k < starts + s * classes) × (entry_at entries k ≡ Some s)

-- states are numbered breadth first: in the order of their first appearance among the starts, then the rows
abbrev pub IsBreadthFirst : Automaton → Type 0
IsBreadthFirst A = AreInOrder A.starts A.classes (length A.rules) A.entries
