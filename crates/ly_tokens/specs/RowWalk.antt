-- The walk over the rows of a DFA.
use Rattle.std.specs.Prelude.{ℕ, List, Bool, Some, option_map, slice_get, unwrap_or}
use Rattle.ly_base.specs.declared.cut.Cut.{Cut}
use Rattle.ly_base.specs.declared.cut.Cut.TheVariants.{Whole}
use Rattle.ly_ere.specs.declared.pattern.Rule.{Rule}
use Rattle.ly_scan.specs.StateWalk.{States, state_walk}
use Rattle.ly_scan.specs.Walk.{Walk}
use Rattle.ly_subset.specs.Automaton.{Automaton, next_of, rule_of, start_of}

-- the states of a DFA
abbrev pub rows_of : Automaton → States
rows_of A = record { start = start_of A; next = λ s b. next_of A (Some s) b; rule = λ s. rule_of A (Some s) }

-- the walk from the start of a condition
abbrev pub row_walk : Automaton → ℕ → Bool → Walk
row_walk A = state_walk (rows_of A)

-- the cut of a rule's matches
abbrev pub cut_in : List Rule → ℕ → Cut
cut_in rules i = unwrap_or (option_map (λ r. r.pattern.cut) (slice_get rules i)) Whole
