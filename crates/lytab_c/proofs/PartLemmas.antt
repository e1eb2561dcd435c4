-- Parts of a tree as C has them.
use Rattle.std.proofs.Common.{◌≡◌, ◌∙◌, ◌<◌, ◌≤◌, ◌+◌, ◌++◌, ◌∷◌, [], ℕ, zero, suc, List, ap, append-nil}
use Rattle.std.proofs.Common.{append_assoc, arith, drop, get_or, length, length-append, refl, subst, sym, take}
use Rattle.std.proofs.Math.ListN.{set}
use Rattle.std.proofs.lemmas.List.{length-take-le, take_more}
use Rattle.ly_places.specs.Parts.{all_parts, parts_of}
use Rattle.ly_places.specs.Placed.{Placed, PlacedTerms, built, leaf, more, none, nothing}
use Rattle.ly_places.specs.declared.part.Part as tree
use Rattle.lytab_c.proofs.BlockLemmas.{one_more}
use Rattle.lytab_c.specs.Parsing.{listed, part_at}
use Rattle.lytab_c.specs.Private.Putting.{EndWithin}
use Rattle.lytab_c.specs.declared.part.Part.{Part}

pub length_listed : (index : ℕ) (ps : List tree.Part) → length (listed index ps) ≡ length ps
length_listed index [] = refl
length_listed index (p ∷ ps) = omega (arith, length_listed (suc index) ps)

-- one more part stands behind the others
pub listed_more : (index at : ℕ) (ps : List tree.Part) (p : tree.Part) → at ≡ index + length ps
    → listed index (ps ++ p ∷ []) ≡ listed index ps ++ part_at at p ∷ []
listed_more index at [] p is = ap (λ n. part_at n p ∷ []) (let e : index ≡ at = omega (arith, is) in e)
listed_more index at (q ∷ ps) p is =
    ap (λ rest. part_at index q ∷ rest) (listed_more (suc index) at ps p (omega (arith, is)))

-- a part is put behind the others into a block
pub part_put : (i : ℕ) (ps : List tree.Part) (old : List Part) (d : tree.Part) → i < length ps
    → length ps ≤ length old
    → set (listed 0 (take i ps) ++ drop i old) i (part_at i (get_or ps i d))
    ≡ listed 0 (take (i + 1) ps) ++ drop (i + 1) old
part_put i ps old d here room =
    let size = length-take-le i ps (omega arith) in
    one_more (listed 0 (take i ps)) old i (part_at i (get_or ps i d)) (length_listed 0 (take i ps) ∙ size) (omega arith)
    ∙ ap (λ front. front ++ drop (i + 1) old)
    (sym (ap (listed 0) (take_more ps i d here)
    ∙ listed_more 0 i (take i ps) (get_or ps i d) (omega (arith, size))))

-- it ends among them
pub ends_within : (count index i : ℕ) (ps : List tree.Part) (d : tree.Part) → EndWithin count index ps → i < length ps
    → index + i + (get_or ps i d).parts ≤ count
ends_within count index i [] d h here = absurd (omega (arith, here))
ends_within count index zero (p ∷ ps) d h here = omega (arith, h.0)
ends_within count index (suc i) (p ∷ ps) d h here =
    let rest = ends_within count (suc index) i ps d h.1 (omega (arith, here)) in omega (arith, rest)

-- behind a term's own parts the others go on
mutual
  one_ends : (t : Placed) (count i : ℕ) (rest : List tree.Part) → i + length (parts_of t) ≤ count
      → EndWithin count (i + length (parts_of t)) rest → EndWithin count i (parts_of t ++ rest)
  one_ends (nothing e) count i rest fits h =
      let next : i + 1 ≡ suc i = omega arith in
      (omega (arith, fits), subst (λ n. EndWithin count n rest) next h)
  one_ends (leaf t e) count i rest fits h =
      let next : i + 1 ≡ suc i = omega arith in
      (omega (arith, fits), subst (λ n. EndWithin count n rest) next h)
  one_ends (built p e ts) count i rest fits h =
      let next : i + suc (length (all_parts ts)) ≡ suc i + length (all_parts ts) = omega arith in (
        omega (arith, fits),
        all_end ts count (suc i) rest (omega (arith, fits)) (subst (λ n. EndWithin count n rest) next h),
      )

  all_end : (ts : PlacedTerms) (count i : ℕ) (rest : List tree.Part) → i + length (all_parts ts) ≤ count
      → EndWithin count (i + length (all_parts ts)) rest → EndWithin count i (all_parts ts ++ rest)
  all_end none count i rest fits h =
      let same : i + 0 ≡ i = omega arith in subst (λ n. EndWithin count n rest) same h
  all_end (more t ts) count i rest fits h =
      let sum = length-append (parts_of t) (all_parts ts) in
      let next : i + length (parts_of t ++ all_parts ts) ≡ i + length (parts_of t) + length (all_parts ts)
      = omega (arith, sum) in
      subst (EndWithin count i) (sym (append_assoc (parts_of t) (all_parts ts) rest))
      (one_ends t count i (all_parts ts ++ rest) (omega (arith, fits, sum))
      (all_end ts count (i + length (parts_of t)) rest (omega (arith, fits, next))
      (subst (λ n. EndWithin count n rest) next h)))

-- each part of a term ends among them
pub parts_end : (t : Placed) → EndWithin (length (parts_of t)) 0 (parts_of t)
parts_end t =
    subst (EndWithin (length (parts_of t)) 0) (append-nil (parts_of t))
    (one_ends t (length (parts_of t)) 0 [] (omega arith) tt)
