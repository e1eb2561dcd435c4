-- The expression of a node in a list of nodes.
use Rattle.std.proofs.Common.{◌≡◌, ℕ, ◌+◌, ◌<◌, ◌≤◌, List, [], ◌∷◌, ◌++◌, length, get_or, take, drop, refl, sym, ap}
use Rattle.std.proofs.Common.{subst, ◌∙◌, arith, append_assoc, length-take, append-nil}
use Rattle.std.proofs.lemmas.List.{get_or_append_left, get_or_at, drop_more, take-append-drop}
use Rattle.ly_ere.specs.Expression.{Expression, empty}
use Rattle.ly_ere.specs.declared.node.Node.{Node}
use Rattle.ly_ere.specs.declared.node.Node.TheVariants.{Set, Empty, Concat, Either, Star, Plus, Optional, Repeat, Name}
use Rattle.ly_ere.specs.Arena.{part_of, expression_of, expressions_from, expressions, FitsAt, IsOrdered}
use Rattle.ly_ere.proofs.ArenaLemmas.{expressions_from-append, length-expressions}

-- the expressions that were there stay in front
from_front : (done : List Expression) (ns : List Node) → (rest : List Expression)
    × (expressions_from done ns ≡ done ++ rest)
from_front done [] = ([], sym (append-nil done))
from_front done (n ∷ ns) =
    let r : (rest : List Expression)
    × (expressions_from (done ++ expression_of done n ∷ []) ns ≡ (done ++ expression_of done n ∷ []) ++ rest)
    = from_front (done ++ expression_of done n ∷ []) ns in
    (expression_of done n ∷ r.0, r.1 ∙ append_assoc done (expression_of done n ∷ []) r.0)

part_front : (done more : List Expression) (k a : ℕ) → a < k → k ≤ length done
    → part_of (done ++ more) a ≡ part_of done a
part_front done more k a l m = get_or_append_left done more empty a (omega arith)

-- only the expressions before a node matter for it
pub expression_front : (n : Node) (done more : List Expression) (k : ℕ) → FitsAt k n → k ≤ length done
    → expression_of (done ++ more) n ≡ expression_of done n
expression_front (Set s) done more k h m = refl
expression_front Empty done more k h m = refl
expression_front (Concat a b) done more k h m = rw (part_front done more k a h.0 m, part_front done more k b h.1 m) refl
expression_front (Either a b) done more k h m = rw (part_front done more k a h.0 m, part_front done more k b h.1 m) refl
expression_front (Star a) done more k h m = rw (part_front done more k a h m) refl
expression_front (Plus a) done more k h m = rw (part_front done more k a h m) refl
expression_front (Optional a) done more k h m = rw (part_front done more k a h m) refl
expression_front (Repeat x y a) done more k h m = rw (part_front done more k a h m) refl
expression_front (Name x) done more k h m = refl

-- the expression at a place is that of the node there
pub expression_at : (ns : List Node) (k : ℕ) (n : Node) → IsOrdered ns → k < length ns → n ≡ get_or ns k n
    → expression_of (expressions ns) n ≡ part_of (expressions ns) k
expression_at ns k n ordered less is = at
  where
    before : List Expression
    before = expressions (take k ns)

    count : length before ≡ k
    count = length-expressions (take k ns) ∙ omega (arith, length-take k ns)

    split : ns ≡ take k ns ++ (n ∷ drop (k + 1) ns)
    split = sym (take-append-drop k ns)
        ∙ ap (λ z. take k ns ++ z) (drop_more ns k n less ∙ ap (λ x. x ∷ drop (k + 1) ns) (sym is))

    tail : (rest : List Expression)
        × (expressions_from (before ++ expression_of before n ∷ []) (drop (k + 1) ns)
        ≡ (before ++ expression_of before n ∷ []) ++ rest)
    tail = from_front (before ++ expression_of before n ∷ []) (drop (k + 1) ns)

    all : expressions ns ≡ before ++ (expression_of before n ∷ tail.0)
    all = ap expressions split ∙ (expressions_from-append [] (take k ns) (n ∷ drop (k + 1) ns)
        ∙ (tail.1 ∙ append_assoc before (expression_of before n ∷ []) tail.0))

    fits : FitsAt k n
    fits = subst (λ x. FitsAt k x) (sym is) (ordered k n less)

    at : expression_of (expressions ns) n ≡ part_of (expressions ns) k
    at = ap (λ es. expression_of es n) all
        ∙ (expression_front n before (expression_of before n ∷ tail.0) k fits (omega (arith, count))
        ∙ sym (ap (λ es. part_of es k) all ∙ get_or_at before (expression_of before n) tail.0 empty k count))
