-- Lists that are kept in pieces.
use Rattle.std.proofs.Common.{◌≡◌, ◌∙◌, ◌+◌, ◌-◌, ◌*◌, ◌++◌, ◌∷◌, [], ℕ, zero, suc, List, Some, ap, ap₂, arith}
use Rattle.std.proofs.Common.{append-nil, length, refl, slice_index_or, slice_set, subst, sym}
use Rattle.std.proofs.Math.Seq.{get_or-append_seam, set-append_seam}
use Rattle.std.proofs.lemmas.List.Concat.{flat_map-append}
use Rattle.std.specs.Prelude.{flat_map, slice_get}
use Rattle.std.specs.Global.{Vec}
use Rattle.std.proofs.lemmas.List.{length-append}
use Rattle.std.proofs.lemmas.List.Elements.{All-head, All-tail}
use Rattle.ly_base.proofs.ListLemmas.{slice_get-append}
use Rattle.ly_relate.specs.Private.Pieces.{elements_of, AreFull}

-- what stands behind others
slice_get-past : {X : Type 0} (xs ys : List X) (k : ℕ) → slice_get (xs ++ ys) (length xs + k) ≡ slice_get ys k
slice_get-past [] ys k = let none : 0 + k ≡ k = omega arith in ap (slice_get ys) none
slice_get-past (x ∷ xs) ys k =
    let next : suc (length xs) + k ≡ suc (length xs + k) = omega arith in
    ap (slice_get (x ∷ (xs ++ ys))) next ∙ slice_get-past xs ys k

-- how many elements full pieces have
pub length-full : {T : Type 0} (full : List (Vec T)) → AreFull full
    → length (flat_map (λ p. p.items) full) ≡ length full * 4096
length-full [] all = refl
length-full {T} (p ∷ ps) all =
    let one = All-head (λ (q : Vec T). length q.items ≡ 4096) p ps all in
    let rest = length-full ps (All-tail (λ (q : Vec T). length q.items ≡ 4096) p ps all) in
    let both = length-append p.items (flat_map (λ q. q.items) ps) in
    omega (arith, one, rest, both)

-- an element of a full piece
full_at : {T : Type 0} (full : List (Vec T)) → AreFull full → (k j : ℕ) (v : Vec T) (x : T) → slice_get full k ≡ Some v
    → slice_get v.items j ≡ Some x → slice_get (flat_map (λ p. p.items) full) (k * 4096 + j) ≡ Some x
full_at [] all k j v x at is = absurd (cc)
full_at (p ∷ ps) all zero j v x at is =
    let same : p ≡ v = cc in
    let place : 0 * 4096 + j ≡ j = omega arith in
    ap (slice_get (p.items ++ flat_map (λ q. q.items) ps)) place
    ∙ slice_get-append p.items (flat_map (λ q. q.items) ps) j x
    (subst (λ q. slice_get q.items j ≡ Some x) (sym same) is)
full_at {T} (p ∷ ps) all (suc k) j v x at is =
    let one = All-head (λ (q : Vec T). length q.items ≡ 4096) p ps all in
    let rest = full_at ps (All-tail (λ (q : Vec T). length q.items ≡ 4096) p ps all) k j v x at is in
    let place : suc k * 4096 + j ≡ length p.items + (k * 4096 + j) = omega (arith, one) in
    ap (slice_get (p.items ++ flat_map (λ q. q.items) ps)) place
    ∙ slice_get-past p.items (flat_map (λ q. q.items) ps) (k * 4096 + j) ∙ rest

pub element_of_full : {T : Type 0} (full : List (Vec T)) (last : List T) → AreFull full → (k j : ℕ) (v : Vec T) (x : T)
    → slice_get full k ≡ Some v → slice_get v.items j ≡ Some x
    → slice_get (elements_of full last) (k * 4096 + j) ≡ Some x
element_of_full full last all k j v x at is =
    slice_get-append (flat_map (λ p. p.items) full) last (k * 4096 + j) x (full_at full all k j v x at is)

-- and one behind them
pub element_of_last : {T : Type 0} (full : List (Vec T)) (last : List T) → AreFull full → (j : ℕ) (x : T)
    → slice_get last j ≡ Some x → slice_get (elements_of full last) (length full * 4096 + j) ≡ Some x
element_of_last full last all j x is =
    ap (λ n. slice_get (elements_of full last) (n + j)) (sym (length-full full all))
    ∙ slice_get-past (flat_map (λ p. p.items) full) last j ∙ is

-- the piece behind the full ones is put behind them, and an empty one takes its place
pub moved_behind : {T : Type 0} (full new : List (Vec T)) (last none next : Vec T) (n : ℕ) → none.items ≡ []
    → new ≡ full ++ none ∷ [] → n ≡ length new → next ≡ slice_index_or new (n - 1) next
    → elements_of (slice_set new (n - 1) last) next.items ≡ elements_of full last.items
moved_behind {T} full new last none next n empty is count there =
    let long = length-append full (none ∷ []) in
    let place : n - 1 ≡ length full = omega (arith, count, ap length is, long) in
    let set : slice_set new (n - 1) last ≡ full ++ last ∷ []
    = ap₂ (λ xs k. slice_set xs k last) is place ∙ set-append_seam full none [] last in
    let same : next ≡ none
    = there ∙ ap₂ (λ xs k. slice_index_or xs k next) is place ∙ get_or-append_seam full none [] next in
    ap₂ elements_of set (ap (λ v. v.items) same ∙ empty) ∙ append-nil (flat_map (λ p. p.items) (full ++ last ∷ []))
    ∙ flat_map-append (λ p. p.items) full (last ∷ [])
    ∙ ap (λ w. flat_map (λ p. p.items) full ++ w) (append-nil last.items)
