-- What was found so far, as the code has it.
use Rattle.std.specs.Prelude.{◌≡◌, ◌≤◌, ◌++◌, ◌-◌, ℕ, List, [], ◌∷◌, length, map, Some, slice_get, slice_index_or}
use Rattle.ly_join.specs.Grammar.{IsAugmented}
use Rattle.ly_grammar.specs.Derivations.{IsReduced}
use Rattle.ly_lr0.specs.Automaton.{Transition}
use Rattle.ly_lr0.specs.declared.found.Found.{Found}
use Rattle.ly_lr0.specs.declared.transition.Row as row
use Rattle.ly_lr0.specs.Private.Built.{AreFound, IsRowOf, Link, link_of, transitions_of}
use Rattle.ly_lr0.specs.Private.Kernels.{kernel_at}
use Rattle.ly_lr0.specs.Transitions.{transition_of}

abbrev pub links_of : Found → List Link
links_of f = map link_of f.links.items

abbrev pub rows_of : Found → List (List Transition)
rows_of f = map transitions_of f.rows.items

-- the rows with one more, of which there may be the first transitions only
abbrev pub with_row : Found → List Transition → List (List Transition)
with_row f row = rows_of f ++ row ∷ []

-- Kernels were found within the limit, and the rows of the first are whole.
pub record IsFound (f : Found) : Type 0 where
  pub augmented : IsAugmented f.reduced.now.grammar
  pub reduced : IsReduced f.reduced.now.grammar
  pub found : AreFound f.reduced.now.grammar f.kernels (links_of f) (rows_of f)
  pub rows : (s : ℕ) (r : row.Row) → slice_get f.rows.items s ≡ Some r
      → IsRowOf f.reduced.now.grammar (kernel_at f.kernels s) r
  pub few : length f.kernels ≤ f.limit
  pub last : map transition_of f.last.items ≡ slice_index_or (rows_of f) (length f.rows.items - 1) []
