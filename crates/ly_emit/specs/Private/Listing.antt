-- What the sections of a table set list.
use Rattle.std.specs.Prelude.{◌≡◌, ℕ, ◌<◌, List, slice_get, Some, true, false}
use Rattle.ly_base.specs.declared.numbers.StateNo.{StateNo}
use Rattle.ly_join.specs.Terminals.{TerminalName, IsOfByte}
use Rattle.ly_pack.specs.Rows.{Entries}
use Rattle.ly_pack.specs.Values.{gotos_from}
use Rattle.ly_subset.specs.Automaton.{Automaton, next_by_class, start_of}
use Rattle.ly_tables.specs.TableSet.{Starts}

-- each byte's terminal is that of its literal
abbrev pub AreLiterals : List TerminalName → List ℕ → Type 0
AreLiterals terminals literals = (b t : ℕ) → slice_get literals b ≡ Some t → IsOfByte terminals b t

-- the condition begins where the automaton says
abbrev pub IsStartOf : Automaton → ℕ → Starts → Type 0
IsStartOf A c x = (x.elsewhere ≡ start_of A c false) × (x.at_line ≡ start_of A c true)

-- so do all
abbrev pub AreStarts : Automaton → List Starts → Type 0
AreStarts A conditions = (c : ℕ) (x : Starts) → slice_get conditions c ≡ Some x → IsStartOf A c x

-- the entry of the state at the class is where it leads
abbrev pub IsNextAt : Automaton → Entries StateNo → ℕ → ℕ → Type 0
IsNextAt A entries state class = gotos_from entries state class ≡ next_by_class A state class

-- the states before this one lead where the automaton says
abbrev pub AreNextTo : Automaton → ℕ → Entries StateNo → Type 0
AreNextTo A count entries = (state class : ℕ) → state < count → class < A.classes → IsNextAt A entries state class
