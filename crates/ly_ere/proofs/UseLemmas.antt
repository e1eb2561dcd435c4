-- The names that an expression uses, found by its nodes.
use Rattle.std.proofs.Common.{◌≡◌, ◌<◌, ◌+◌, ℕ, suc, List, [], ◌∷◌, ◌++◌, ap, arith, refl, sym, ◌∙◌, map, inl, inr, ◌⊎◌}
use Rattle.std.proofs.Common.{length-append, subst, ◌≤◌}
use Rattle.std.proofs.Common.{append_assoc, append-nil}
use Rattle.std.specs.Prelude.{All, Option}
use Rattle.std.proofs.Math.ListN.{get_or-append, get_or-map}
use Rattle.ly_ere.specs.Arena.{FitsAt, expression_of, part_of}
use Rattle.ly_ere.specs.declared.node.Node.{Node}
use Rattle.ly_ere.specs.declared.node.Node.TheVariants.{Concat, Either, Empty, Name, Optional, Plus, Repeat, Set, Star}
use Rattle.ly_ere.specs.Expression.{Expression, empty}
use Rattle.ly_ere.specs.Private.Uses.{renumbered, size_of, size_of_all, uses_of, uses_of_all}

-- one more stands in front
pub uses_push : (done : List Expression) (ns : List ℕ) (n : ℕ)
    → uses_of_all done (ns ++ n ∷ []) ≡ uses_of (part_of done n) ++ uses_of_all done ns
uses_push done [] n = sym (append-nil (uses_of (part_of done n)))
uses_push done (m ∷ ns) n = ap (λ us. us ++ uses_of (part_of done m)) (uses_push done ns n)
    ∙ append_assoc (uses_of (part_of done n)) (uses_of_all done ns) (uses_of (part_of done m))

pub size_push : (done : List Expression) (ns : List ℕ) (n : ℕ)
    → size_of_all done (ns ++ n ∷ []) ≡ size_of (part_of done n) + size_of_all done ns
size_push done [] n = refl
size_push done (m ∷ ns) n = omega (arith, size_push done ns n)

-- the part with other numbers
pub part_renumbered : (f : ℕ → ℕ) (done : List Expression) (a : ℕ)
    → part_of (map (renumbered f) done) a ≡ renumbered f (part_of done a)
part_renumbered f done a = get_or-map (renumbered f) done a empty

-- a node over one part
pub one_part : (done : List Expression) (n : Node) (p : ℕ)
    → (n ≡ Star p) ⊎ ((n ≡ Plus p) ⊎ ((n ≡ Optional p) ⊎ ((m : ℕ) × (o : Option ℕ) × (n ≡ Repeat m o p))))
    → (uses_of (expression_of done n) ≡ uses_of (part_of done p))
    × (size_of (expression_of done n) ≡ 1 + size_of (part_of done p))
one_part done n p (inl is) = rw is (refl, refl)
one_part done n p (inr (inl is)) = rw is (refl, refl)
one_part done n p (inr (inr (inl is))) = rw is (refl, refl)
one_part done n p (inr (inr (inr (m, o, is)))) = rw is (refl, refl)

-- a node over two
pub two_parts : (done : List Expression) (n : Node) (p q : ℕ) → (n ≡ Concat p q) ⊎ (n ≡ Either p q)
    → (uses_of (expression_of done n) ≡ uses_of (part_of done p) ++ uses_of (part_of done q))
    × (size_of (expression_of done n) ≡ 1 + (size_of (part_of done p) + size_of (part_of done q)))
two_parts done n p q (inl is) = rw is (refl, refl)
two_parts done n p q (inr is) = rw is (refl, refl)

-- the last is within, where all are
pub last_within : (ns : List ℕ) (n k : ℕ) → All (λ m. m < k) (ns ++ n ∷ []) → n < k
last_within [] n k all = all 0 0 (omega arith)
last_within (m ∷ ns) n k all = last_within ns n k (λ i d l. all (suc i) d (omega (arith, l)))

-- and so are those before it
pub front_within : (ns : List ℕ) (n k : ℕ) → All (λ m. m < k) (ns ++ n ∷ []) → All (λ m. m < k) ns
front_within ns n k all i d l = subst (λ m. m < k) (get_or-append ns (n ∷ []) d i l)
    (all i d (omega (arith, l, length-append ns (n ∷ []))))

-- a node fits later too
pub fits_later : (n : Node) (k m : ℕ) → k ≤ m → FitsAt k n → FitsAt m n
fits_later (Set s) k m l h = h
fits_later Empty k m l h = tt
fits_later (Concat a b) k m l h = (omega (arith, l, h.0), omega (arith, l, h.1))
fits_later (Either a b) k m l h = (omega (arith, l, h.0), omega (arith, l, h.1))
fits_later (Star a) k m l h = omega (arith, l, h)
fits_later (Plus a) k m l h = omega (arith, l, h)
fits_later (Optional a) k m l h = omega (arith, l, h)
fits_later (Repeat i j a) k m l h = omega (arith, l, h)
fits_later (Name x) k m l h = tt
