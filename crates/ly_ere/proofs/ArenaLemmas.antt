-- A node at the end adds its expression at the end.
use Rattle.std.proofs.Common.{◌≡◌, ℕ, ◌+◌, ◌<◌, List, [], ◌∷◌, ◌++◌, length, get_or, take, refl, sym, ap, ◌∙◌, arith}
use Rattle.std.proofs.Common.{length-append, add-one, add-zero}
use borrow.Author.Count.{below_more}
use Rattle.std.proofs.Math.Seq.{get_or-append_seam, take-suc}
use Rattle.std.proofs.Math.ListN.{get_or-append}
use Rattle.ly_ere.specs.Expression.{Expression}
use Rattle.ly_ere.specs.declared.node.Node.{Node}
use Rattle.ly_ere.specs.Arena.{expression_of, expressions_from, expressions, FitsAt, IsOrdered}

pub expressions_from-append : (done : List Expression) (ms ns : List Node)
    → expressions_from done (ms ++ ns) ≡ expressions_from (expressions_from done ms) ns
expressions_from-append done [] ns = refl
expressions_from-append done (m ∷ ms) ns = expressions_from-append (done ++ expression_of done m ∷ []) ms ns

pub expressions-push : (ns : List Node) (n : Node)
    → expressions (ns ++ n ∷ []) ≡ expressions ns ++ expression_of (expressions ns) n ∷ []
expressions-push ns n = expressions_from-append [] ns (n ∷ [])

length_from : (done : List Expression) (ns : List Node) → length (expressions_from done ns) ≡ length done + length ns
length_from done [] = sym (add-zero (length done))
length_from done (m ∷ ns)
    = omega (arith, length_from (done ++ expression_of done m ∷ []) ns, length-append done (expression_of done m ∷ []))

pub length-expressions : (ns : List Node) → length (expressions ns) ≡ length ns
length-expressions ns = omega (arith, length_from [] ns)

pub IsOrdered-push : (ns : List Node) (n : Node) → IsOrdered ns → FitsAt (length ns) n → IsOrdered (ns ++ n ∷ [])
IsOrdered-push ns n h below k d less =
    below_more (λ i. (d : Node) → FitsAt i (get_or (ns ++ n ∷ []) i d)) (length ns)
    (λ i l d. rw (get_or-append ns (n ∷ []) d i l) (h i d l)) (λ d. rw (get_or-append_seam ns n [] d) below) k
    (omega (arith, length-append ns (n ∷ []))) d

-- one more node
pub expressions-take : (ns : List Node) (k : ℕ) (d : Node) → k < length ns
    → expressions (take (k + 1) ns) ≡ expressions (take k ns) ++ expression_of (expressions (take k ns)) (get_or ns k d)
    ∷ []
expressions-take ns k d h = ap expressions (ap (λ i. take i ns) (add-one k) ∙ take-suc ns k d h)
    ∙ expressions-push (take k ns) (get_or ns k d)
