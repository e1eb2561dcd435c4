-- Sets of positions as the states of a deterministic automaton (Rabin and Scott 1959).
use Rattle.std.specs.Prelude.{◌≡◌, ◌↔◌, ℕ, suc, ◌*◌, ◌<◌, ◌≤◌, List, [], length, slice_index_or, Bool, Option}
use Rattle.std.specs.Prelude.{Some, None, Contains, All, AllPairs}
use Rattle.ly_position.specs.Nfa.{Nfa, ComesTo, Stepped, IsEnd, starts_of}
use Rattle.ly_subset.specs.Automaton.{Automaton, IsBreadthFirst, start_of, next_of, rule_of}
use Rattle.ly_subset.specs.Classes.{AreClasses}

-- the set with this number; empty past the last
abbrev pub set_at : List (List ℕ) → ℕ → List ℕ
set_at sets s = slice_index_or sets s []

-- the number is that of the set of these positions; none if and only if there is no such position
abbrev pub IsStateOf : List (List ℕ) → Option ℕ → (ℕ → Type 0) → Type 0
IsStateOf sets None P = (q : ℕ) → P q → ⊥
IsStateOf sets (Some s) P = (s < length sets) × ((q : ℕ) → Contains (set_at sets s) q ↔ P q)

-- the least rule that has a property; none if and only if no rule has it
abbrev pub IsLeastRule : (ℕ → Type 0) → Option ℕ → Type 0
IsLeastRule P None = (i : ℕ) → P i → ⊥
IsLeastRule P (Some i) = P i × ((j : ℕ) → P j → i ≤ j)

-- one of the positions is the end mark of the rule
abbrev pub HasEnd : Nfa → List ℕ → ℕ → Type 0
HasEnd nfa set i = (p : ℕ) × Contains set p × IsEnd nfa p i

-- Sets of numbers below a bound, each nonempty and no two equal.
pub record AreSets (below : ℕ) (sets : List (List ℕ)) : Type 0 where
  pub some : (s : ℕ) → s < length sets → (q : ℕ) × Contains (set_at sets s) q
  pub apart : (s t : ℕ) → s < length sets → t < length sets
      → ((q : ℕ) → Contains (set_at sets s) q ↔ Contains (set_at sets t) q) → s ≡ t
  pub within : (s q : ℕ) → Contains (set_at sets s) q → q < below

-- The states are the sets of positions that can come next after some string. Starts lead to the start lists. The entry
-- of a state at a byte leads to the positions that may come next once it is read. The rule of a state is the least one
-- with an end mark in its set.
pub record AreSubsets (nfa : Nfa) (conditions : ℕ) (A : Automaton) : Type 0 where
  pub classes : AreClasses nfa A.class_of A.classes
  pub sets : List (List ℕ)
  pub are_sets : AreSets (length nfa.positions) sets
  pub count : length sets ≡ length A.rules
  pub two_starts : A.starts ≡ 2 * conditions
  pub starts : (c : ℕ) (line : Bool) → c < conditions → IsStateOf sets (start_of A c line) (Contains
      (starts_of nfa c line))
  pub nexts : (s b : ℕ) → s < length sets
      → IsStateOf sets (next_of A (Some s) b) (Stepped nfa (set_at sets s) b)
  pub rules : (s : ℕ) → s < length sets → IsLeastRule (HasEnd nfa (set_at sets s)) (rule_of A (Some s))
  pub breadth_first : IsBreadthFirst A

-- A string that is read from the start of a condition, at the start of a line or elsewhere.
pub record Beginning : Type 0 where
  pub condition : ℕ
  pub line : Bool
  pub text : List ℕ

-- position q can come next after the string
abbrev pub IsAfter : Nfa → Beginning → ℕ → Type 0
IsAfter nfa o q = (p : ℕ) × Contains (starts_of nfa o.condition o.line) p × ComesTo nfa p o.text q

-- the positions that can come next after two strings are the same
abbrev pub AreAlike : Nfa → Beginning → Beginning → Type 0
AreAlike nfa o u = (q : ℕ) → IsAfter nfa o q ↔ IsAfter nfa u q

-- some position can come next after a string from the start of one of the conditions
abbrev pub IsAlive : Nfa → ℕ → Beginning → Type 0
IsAlive nfa conditions o = (o.condition < conditions) × ((q : ℕ) × IsAfter nfa o q)

-- More than n sets can come next: after n + 1 strings, none of the sets empty and no two equal.
pub record HasMoreSets (nfa : Nfa) (conditions n : ℕ) : Type 0 where
  pub after : List Beginning
  pub count : length after ≡ suc n
  pub alive : All (IsAlive nfa conditions) after
  pub apart : AllPairs (λ o u. AreAlike nfa o u → ⊥) after
