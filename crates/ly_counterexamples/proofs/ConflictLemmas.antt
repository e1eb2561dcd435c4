-- The conflict of an index, as it is found.
use Rattle.std.proofs.Common.{◌≡◌, ◌∙◌, ℕ, List, Option, Some, None, ap, map, option_map, slice_get, sym}
use Rattle.std.specs.Prelude.{All, Contains, IfSome}
use Rattle.std.proofs.lemmas.Option.{slice_get-map}
use Rattle.ly_base.proofs.ListLemmas.{All-at}
use Rattle.ly_join.proofs.ListLemmas.{member_at}
use Rattle.ly_resolve.specs.Resolved.{Resolved}
use Rattle.ly_resolve.specs.Values.{conflict_from, IsInside}
use Rattle.ly_resolve.specs.declared.conflict.Conflict.{Conflict}

pub found_at : (r : Resolved) (xs : List Conflict) (index : ℕ) (found : Option Conflict)
    → map (conflict_from r.automaton) xs ≡ r.conflicts → found ≡ slice_get xs index
    → IfSome found (λ x. slice_get r.conflicts index ≡ Some (conflict_from r.automaton x))
found_at r xs index None these e = tt
found_at r xs index (Some x) these e = ap (λ cs. slice_get cs index) (sym these)
    ∙ slice_get-map (conflict_from r.automaton) xs index ∙ ap (option_map (conflict_from r.automaton)) (sym e)

pub found_inside : (r : Resolved) (xs : List Conflict) (index : ℕ) (found : Option Conflict)
    → All (IsInside r.automaton) xs → found ≡ slice_get xs index → IfSome found (IsInside r.automaton)
found_inside r xs index None inside e = tt
found_inside r xs index (Some x) inside e = All-at (IsInside r.automaton) xs index x inside (sym e)

pub found_among : (r : Resolved) (xs : List Conflict) (index : ℕ) (found : Option Conflict)
    → map (conflict_from r.automaton) xs ≡ r.conflicts → found ≡ slice_get xs index
    → IfSome found (λ x. Contains r.conflicts (conflict_from r.automaton x))
found_among r xs index None these e = tt
found_among r xs index (Some x) these e =
    member_at r.conflicts index (conflict_from r.automaton x) (found_at r xs index (Some x) these e)
