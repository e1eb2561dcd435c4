-- The lookaheads of an automaton's complete rules.
use Rattle.std.specs.Prelude.{◌≡◌, ◌↔◌, ◌<◌, ◌+◌, ℕ, List, Some, length, refl, slice_get, slice_index_or}
use Rattle.std.specs.Coded.{Coded, code_by, coded×, coded_ℕ, coded_list}
use Rattle.std.specs.FinSet as set
use Rattle.ly_sets.specs.NumberSet.{NumberSet, Member}
use Rattle.ly_sets.specs.SetMatrix.{row}
use Rattle.ly_grammar.specs.Items.{InLookahead}
use Rattle.ly_lr0.specs.Automaton.{Lr0Automaton, State}

-- Sets by rows, and for each state the row of the first rule that is complete in it.
pub record Lookaheads : Type 0 where
  pub first : List ℕ
  pub sets : List NumberSet

abbrev pub lookaheads_code : Coded Lookaheads
lookaheads_code = code_by (List ℕ × List NumberSet) (coded× (coded_list coded_ℕ) (coded_list (set.code coded_ℕ)))
    (λ l. (l.first, l.sets)) (λ p. record { first = p.0; sets = p.1 }) (λ _. refl)

-- the set of the rule at this index among those complete in a state
abbrev pub set_at : Lookaheads → ℕ → ℕ → NumberSet
set_at L s k = row L.sets (slice_index_or L.first s 0 + k)

-- the rule at this index among those complete in a state has a set
abbrev pub HasSet : Lookaheads → ℕ → ℕ → Type 0
HasSet L s k = (s < length L.first) × (slice_index_or L.first s 0 + k < length L.sets)

-- Each rule that is complete in a state has its set: that of the canonical LR(1) automaton, with sets of equal cores
-- merged.
pub record AreLookaheads (M : Lr0Automaton) (L : Lookaheads) : Type 0 where
  pub has : (s k p : ℕ) (q : State) → slice_get M.states s ≡ Some q → slice_get q.complete k ≡ Some p → HasSet L s k
  pub are : (s k p t : ℕ) (q : State) → slice_get M.states s ≡ Some q → slice_get q.complete k ≡ Some p
      → Member (set_at L s k) t ↔ InLookahead M.grammar q.prefix p t
