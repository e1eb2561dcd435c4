-- Sizes of code, and the steps that are left to append.
use Rattle.std.proofs.Common.{◌≡◌, ℕ, ◌+◌, ◌<◌, ◌≤◌, List, [], ◌∷◌, ◌++◌, length, map, take, refl, sym, ap, ◌∙◌, arith}
use Rattle.std.proofs.Common.{length-append, length-take}
use Rattle.std.specs.Prelude.{min, slice_index, reverse}
use Rattle.std.proofs.lemmas.List.{get_or-map, get_or-take, map_more, reverse-append}
use Rattle.ly_ere.specs.Expression.{Expression, empty}
use Rattle.ly_ere.specs.Arena.{part_of, expression_of, FitsAt}
use Rattle.ly_ere.specs.declared.node.Node.{Node}
use Rattle.ly_ere.specs.declared.node.Node.TheVariants.{Set, Empty, Concat, Either, Star, Plus, Optional, Repeat, Name}
use Rattle.ly_position.specs.Private.Program.{code, counted, most_counted, node_size, size}
use Rattle.ly_position.specs.Private.Compile.{planned}
use Rattle.ly_position.specs.declared.program.Task.{Task}
use Rattle.ly_position.specs.declared.program.Task.TheVariants as task
use Rattle.ly_position.proofs.CodePlaces.{length-code}

counted_part : (es : List Expression) (ss : List ℕ) (i a : ℕ) → ss ≡ map counted (take i es) → i ≤ length es → a < i
    → slice_index ss a ≡ counted (part_of es a)
counted_part es ss i a e l m =
    let less : a < length (take i es) = omega (arith, length-take i es) in
    rw e (get_or-map counted (take i es) a empty 0 less ∙ ap counted (get_or-take i es a empty m))

-- what is counted of a node is what is counted of its expression
pub counted_at : (es : List Expression) (ss : List ℕ) (i : ℕ) (n : Node) → ss ≡ map counted (take i es)
    → i ≤ length es → FitsAt i n → min (node_size ss n) most_counted ≡ counted (expression_of es n)
counted_at es ss i (Set s) e l h = refl
counted_at es ss i Empty e l h = refl
counted_at es ss i (Concat a b) e l h = let x = counted_part es ss i a e l h.0
    in let y = counted_part es ss i b e l h.1 in omega arith
counted_at es ss i (Either a b) e l h = let x = counted_part es ss i a e l h.0
    in let y = counted_part es ss i b e l h.1 in omega arith
counted_at es ss i (Star a) e l h = let x = counted_part es ss i a e l h in omega arith
counted_at es ss i (Plus a) e l h = let x = counted_part es ss i a e l h in omega arith
counted_at es ss i (Optional a) e l h = let x = counted_part es ss i a e l h in omega arith
counted_at es ss i (Repeat m n a) e l h = refl
counted_at es ss i (Name x) e l h = refl

-- one more size
pub sizes_more : (es : List Expression) (ss ts : List ℕ) (i k : ℕ) (n : Node) → ss ≡ map counted (take i es)
    → i < length es → FitsAt i n → expression_of es n ≡ part_of es i → k ≡ min (node_size ss n) most_counted
    → ts ≡ ss ++ k ∷ [] → ts ≡ map counted (take (i + 1) es)
sizes_more es ss ts i k n e l h is same grown =
    grown ∙ (ap (λ z. z ++ k ∷ []) e
    ∙ (ap (λ z. map counted (take i es) ++ z ∷ []) (same ∙ (counted_at es ss i n e (omega arith) h ∙ ap counted is))
    ∙ sym (map_more counted es i empty l)))

-- the first task fits
pub planned_room : (es : List Expression) (ts : List Task) (p next base : ℕ)
    → size (part_of es p) ≤ length (planned es (reverse (ts ++ task.Code p next ∷ [])) base)
planned_room es ts p next base
    = rw (reverse-append ts (task.Code p next ∷ []))
    (omega (
      arith,
      length-append (code (part_of es p) base next) (planned es (reverse ts) (base + size (part_of es p))),
      length-code (part_of es p) base next,
    ))
