-- A walk over the children of a part meets them.
use Rattle.std.proofs.Common.{◌≡◌, ◌∙◌, ◌<◌, ◌+◌, ◌++◌, ◌∷◌, [], ℕ, suc, List, Some, ap, append_assoc, arith}
use Rattle.std.proofs.Common.{length, length-append, refl, subst, sym}
use Rattle.std.specs.Prelude.{slice_get}
use Rattle.ly_spans.specs.declared.span.Span.{Span}
use Rattle.ly_places.specs.Parts.{all_parts, part, parts_of}
use Rattle.ly_places.specs.Placed.{Placed, PlacedTerms, built, leaf, more, none, nothing}
use Rattle.ly_places.specs.declared.part.Part as tree
use Rattle.ly_places.specs.declared.part.PartKind.TheVariants.{Node, Nothing, Token}
use Rattle.lytab_c.proofs.PartLemmas.{length_listed}
use Rattle.lytab_c.specs.Parsing.{listed, part_at}
use Rattle.lytab_c.specs.Walks.{starts_from, AllStandAt, Meets, StandsAt}
use Rattle.lytab_c.specs.declared.part.Part.{Part}

-- what stands behind some items
behind_some : {X : Type 0} (xs : List X) (n : ℕ) (y : X) (ys : List X) → length xs ≡ n
    → slice_get (xs ++ y ∷ ys) n ≡ Some y
behind_some [] n y ys is = subst (λ k. slice_get (y ∷ ys) k ≡ Some y) is refl
behind_some (x ∷ xs) n y ys is =
    subst (λ k. slice_get (x ∷ (xs ++ y ∷ ys)) k ≡ Some y) is (behind_some xs (length xs) y ys refl)

-- the parts of two lists
listed_append : (at next : ℕ) (ps qs : List tree.Part) → at + length ps ≡ next
    → listed at (ps ++ qs) ≡ listed at ps ++ listed next qs
listed_append at next [] qs is = ap (λ k. listed k qs) (let same : at ≡ next = omega (arith, is) in same)
listed_append at next (p ∷ ps) qs is =
    ap (λ rest. part_at at p ∷ rest) (listed_append (suc at) next ps qs (omega (arith, is)))

-- the first part of a term is its own, and says where the term's parts end
first_of : (t : Placed) (at : ℕ) → (own : Part) × (rest : List Part) × (listed at (parts_of t) ≡ own ∷ rest)
    × (own.next ≡ at + length (parts_of t))
first_of (nothing e) at = (part_at at (part Nothing e 1), [], refl, refl)
first_of (leaf t e) at = (part_at at (part (Token (record { 0 = t })) e 1), [], refl, refl)
first_of (built p e ts) at = (
  part_at at (part (Node (record { 0 = p })) e (suc (length (all_parts ts)))),
  listed (suc at) (all_parts ts),
  refl,
  refl,
)

-- it is there where the term stands
own_at : (parts : List Part) (at : ℕ) (t : Placed) → StandsAt parts at t
    → (own : Part) × (slice_get parts at ≡ Some own) × (own.next ≡ at + length (parts_of t))
own_at parts at t h =
    let first = first_of t at in
    let rest = first.1 ++ h.1 in
    let is : parts ≡ h.0 ++ first.0 ∷ rest = h.3 ∙ ap (λ own. h.0 ++ (own ++ h.1)) first.2 in
    (first.0, ap (λ ps. slice_get ps at) is ∙ behind_some h.0 at first.0 rest h.2, first.3)

not_empty : (t : Placed) → 0 < length (parts_of t)
not_empty (nothing e) = omega arith
not_empty (leaf t e) = omega arith
not_empty (built p e ts) = omega arith

-- terms that stand one behind another are met, and stand there
children : (parts : List Part) (at end : ℕ) (before behind : List Part) (ts : PlacedTerms) → length before ≡ at
    → parts ≡ before ++ (listed at (all_parts ts) ++ behind) → end ≡ at + length (all_parts ts)
    → Meets parts end at (starts_from at ts) × AllStandAt parts at ts
children parts at end before behind none size is ends = (omega (arith, ends), tt)
children parts at end before behind (more t ts) size is ends =
    let next = at + length (parts_of t) in
    let both = listed_append at next (parts_of t) (all_parts ts) refl in
    let own_parts = listed at (parts_of t) in
    let others = listed next (all_parts ts) in
    let split : parts ≡ before ++ (own_parts ++ (others ++ behind))
    = is ∙ ap (λ ps. before ++ ps) (ap (λ ps. ps ++ behind) both ∙ append_assoc own_parts others behind) in
    let stands : StandsAt parts at t = (before, others ++ behind, size, split) in
    let own = own_at parts at t stands in
    let sum = length-append (parts_of t) (all_parts ts) in
    let reach : length (before ++ own_parts) ≡ next
    = omega (arith, length-append before own_parts, length_listed at (parts_of t), size) in
    let rest = children parts next end (before ++ own_parts) behind ts reach
    (split ∙ sym (append_assoc before own_parts (others ++ behind))) (omega (arith, ends, sum)) in (
      (
        refl,
        omega (arith, ends, sum, not_empty t),
        own.0,
        own.1,
        subst (λ k. Meets parts end k (starts_from next ts)) (sym own.2) rest.0,
      ),
      (stands, rest.1),
    )

-- so the children of a node are
pub walks : (parts : List Part) (at p : ℕ) (e : Span) (ts : PlacedTerms) → StandsAt parts at (built p e ts)
    → (own : Part) × (slice_get parts at ≡ Some own) × Meets parts own.next (suc at) (starts_from (suc at) ts)
    × AllStandAt parts (suc at) ts
walks parts at p e ts h =
    let own = own_at parts at (built p e ts) h in
    let first = part_at at (part (Node (record { 0 = p })) e (suc (length (all_parts ts)))) in
    let front = h.0 ++ first ∷ [] in
    let reach : length front ≡ suc at = omega (arith, length-append h.0 (first ∷ []), h.2) in
    let split : parts ≡ front ++ (listed (suc at) (all_parts ts) ++ h.1)
    = h.3 ∙ sym (append_assoc h.0 (first ∷ []) (listed (suc at) (all_parts ts) ++ h.1)) in
    let end : own.0.next ≡ suc at + length (all_parts ts) = omega (arith, own.2) in
    let met = children parts (suc at) own.0.next front h.1 ts reach split end in (own.0, own.1, met.0, met.1)
