-- The rows of a matrix within its words.
use Rattle.std.proofs.Common.{◌≡◌, ◌≢◌, ◌∙◌, ◌<◌, ◌≤◌, ◌+◌, ◌-◌, ◌*◌, ◌/◌, ◌%◌, ◌==◌, ◌||◌, ◌++◌, ◌∷◌, ℕ, zero, suc}
use Rattle.std.proofs.Common.{true, false, Bool, List, length, get_or, set, take, drop, sym, ap, ap₂, subst, refl}
use Rattle.std.proofs.Common.{arith}
use Rattle.std.proofs.Common.{inl, inr, ◌⊎◌, replicate}
use Rattle.std.specs.FinSet as set
use Rattle.std.specs.FinSet.{contains-empty}
use Rattle.std.specs.Ordering.{nat_cmp}
use Rattle.std.proofs.Math.Nat.{suc-mul, mul-le-mul_right}
use Rattle.std.proofs.Math.ListN.{length-set}
use Rattle.std.specs.Int.{bit_at}
use Rattle.std.proofs.lemmas.Bool.{cases_lt, cases_eq}
use Rattle.std.proofs.lemmas.List.{same_lists, get_or_default, get_or-set_same, get_or-set_other, map-set, get_or-map}
use Rattle.std.proofs.lemmas.List.{get_or_past, take-append-le, take_all, get_or_append_left, get_or-append-add}
use Rattle.std.proofs.lemmas.List.{set-get_or, length-map}
use Rattle.std.proofs.lemmas.Nat.Bits.{bit_at-zero}
use Rattle.std.proofs.lemmas.Simd.{length-replicate, get_or-replicate, get_or-chunk}
use Rattle.ly_sets.specs.NumberSet.{NumberSet, AllBelow, set_of, row_set}
use Rattle.ly_sets.specs.SetMatrix.{row}
use Rattle.ly_sets.specs.Rows.{stored_set, sets_by, IsLaid}
use Rattle.ly_sets.proofs.NumberSetLemmas.{contains-insert_nat, contains-union_nat, same_members, contains-set_of}
use Rattle.ly_sets.proofs.RowLemmas.{row_set_same, row_set_as}

-- ---- rows and stored rows

pub row-sets_by : (stride : ℕ) (words stored : List ℕ) (i : ℕ) → i < length stored
    → row (sets_by stride words stored) i ≡ stored_set stride words (get_or stored i 0)
row-sets_by stride words stored i lt = get_or-map (stored_set stride words) stored i 0 set.empty lt

-- the words of a stored row are among the words
pub stored_inside : (k stride n : ℕ) → k < n → k * stride + stride ≤ n * stride
stored_inside k stride n lt
    = omega (arith, suc-mul k stride, mul-le-mul_right stride (let h : suc k ≤ n = omega arith in h))

-- the number that a row names, as it is read
pub named_read : (stored : List ℕ) (i k : ℕ) → i < length stored → k ≡ get_or stored i k → k ≡ get_or stored i 0
named_read stored i k lt e = e ∙ get_or_default stored i k 0 lt

-- the words of a row, where they begin, are its set
pub row_at : (stride start : ℕ) (words now stored : List ℕ) (i : ℕ) → i < length stored
    → start ≡ get_or stored i 0 * stride → now ≡ words
    → row_set start stride now ≡ row (sets_by stride words stored) i
row_at stride start words now stored i lt at is = ap₂ (λ t ws. row_set t stride ws) at is
    ∙ sym (row-sets_by stride words stored i lt)

-- two stored rows are one or apart
pub rows_apart : (i j stride : ℕ) → (i * stride + stride ≤ j * stride)
    ⊎ ((j * stride + stride ≤ i * stride) ⊎ (i * stride ≡ j * stride))
rows_apart i j stride = elim (cases_lt i j) [
  | inl lt ↦ inl (stored_inside i stride j lt)
  | inr ge ↦ elim (cases_lt j i) [
    | inl lt ↦ inr (inl (stored_inside j stride i lt))
    | inr le ↦ inr (inr (let same : i ≡ j = omega arith in ap (λ k. k * stride) same))
  ]
]

-- the same stored rows are the same sets
pub sets_by-same : (stride : ℕ) (old new stored : List ℕ)
    → ((i : ℕ) → i < length stored
    → stored_set stride new (get_or stored i 0) ≡ stored_set stride old (get_or stored i 0))
    → sets_by stride new stored ≡ sets_by stride old stored
sets_by-same stride old new stored same =
    let n = length-map stored (stored_set stride new) in
    let m = length-map stored (stored_set stride old) in
    same_lists (sets_by stride new stored) (sets_by stride old stored) (n ∙ sym m) (λ i d lt.
    let below : i < length stored = omega (arith, n) in
    get_or-map (stored_set stride new) stored i 0 d below ∙ same i below
    ∙ sym (get_or-map (stored_set stride old) stored i 0 d below))

-- ---- a write to a stored row that is named once changes one row's set alone

module _ {stride : ℕ} {old : List ℕ} {shared : List Bool} {stored : List ℕ} (laid : IsLaid stride old shared stored)
    (new : List ℕ) (i : ℕ) (inside : i < length stored) (alone : get_or shared (get_or stored i 0) true ≡ false)
    (others : (k : ℕ) → (k < get_or stored i 0 * stride) ⊎ (get_or stored i 0 * stride + stride ≤ k)
    → get_or new k 0 ≡ get_or old k 0) where
  other_stored : (j : ℕ) → j < length stored → j ≢ i
      → stored_set stride new (get_or stored j 0) ≡ stored_set stride old (get_or stored j 0)
  other_stored j lt ne = row_set_same old new (get_or stored j 0 * stride) stride (λ k h.
      others (get_or stored j 0 * stride + k) (elim (cases_lt (get_or stored j 0) (get_or stored i 0)) [
        | inl before ↦ inl (omega (arith, stored_inside (get_or stored j 0) stride (get_or stored i 0) before))
        | inr after ↦
            let apart : get_or stored i 0 ≢ get_or stored j 0 = λ e. ne (sym (laid.once i j inside lt e alone)) in
            inr (omega (arith, stored_inside (get_or stored i 0) stride (get_or stored j 0) (omega arith)))
      ]))

  pub sets_by-changed : (s : NumberSet) → stored_set stride new (get_or stored i 0) ≡ s
      → sets_by stride new stored ≡ set (sets_by stride old stored) i s
  sets_by-changed s is =
      let n = length-map stored (stored_set stride new) in
      let m = length-map stored (stored_set stride old) in
      same_lists (sets_by stride new stored) (set (sets_by stride old stored) i s)
      (n ∙ sym (length-set (sets_by stride old stored) i s ∙ m)) (λ j d lt.
      let below : j < length stored = omega (arith, n) in
      get_or-map (stored_set stride new) stored j 0 d below
      ∙ elim (cases_eq j i) [
        | inl same ↦ ap (λ k. stored_set stride new (get_or stored k 0)) same ∙ is
            ∙ sym (get_or-set_same (sets_by stride old stored) i s d (omega (arith, m)))
            ∙ ap (λ k. get_or (set (sets_by stride old stored) i s) k d) (sym same)
        | inr ne ↦ other_stored j below ne ∙ sym (get_or-map (stored_set stride old) stored j 0 d below)
            ∙ sym (get_or-set_other (sets_by stride old stored) i j s d ne)
      ])

-- the words after a write to all of them
pub written : (len : ℕ) (new old : List ℕ) → length new ≡ len → take len (new ++ drop (length new) old) ≡ new
written len new old e = take-append-le len new (drop (length new) old) (omega arith) ∙ take_all len new (omega arith)

-- ---- a row that gets a copy of its own

module _ (stride : ℕ) (words : List ℕ) (n start : ℕ) (long : length words ≡ n * stride)
    (room : start + stride ≤ length words) where
  -- the stored rows from before are as they were
  pub stored_set-kept : (k : ℕ) → k < n
      → stored_set stride (words ++ take (start + stride - start) (drop start words)) k ≡ stored_set stride words k
  stored_set-kept k lt = row_set_same words (words ++ take (start + stride - start) (drop start words)) (k * stride)
      stride (λ j h. get_or_append_left words (take (start + stride - start) (drop start words)) 0 (k * stride + j)
      (omega (arith, stored_inside k stride n lt)))

  -- the new one is the copy
  pub stored_set-copy : stored_set stride (words ++ take (start + stride - start) (drop start words)) n
      ≡ row_set start stride words
  stored_set-copy = row_set_as words (words ++ take (start + stride - start) (drop start words)) start (n * stride)
      stride (λ j h. ap (λ at. get_or (words ++ take (start + stride - start) (drop start words)) (at + j) 0) (sym long)
      ∙ get_or-append-add words (take (start + stride - start) (drop start words)) j 0
      ∙ get_or-chunk start (start + stride - start) words j 0 (omega arith))

-- the sets of the rows stay
pub sets_by-copied : {stride : ℕ} {words : List ℕ} {shared : List Bool} {stored : List ℕ}
    → IsLaid stride words shared stored → (i start : ℕ) → start + stride ≤ length words → i < length stored
    → start ≡ get_or stored i 0 * stride
    → sets_by stride (words ++ take (start + stride - start) (drop start words)) (set stored i (length shared))
    ≡ sets_by stride words stored
sets_by-copied {stride} {words} {shared} {stored} laid i start room inside is =
    let new : List ℕ = words ++ take (start + stride - start) (drop start words) in
    map-set (stored_set stride new) stored i (length shared)
    ∙ ap₂ (λ ss s. set ss i s)
    (sets_by-same stride words new stored (λ j lt.
    stored_set-kept stride words (length shared) start laid.long room (get_or stored j 0) (laid.named j lt)))
    (stored_set-copy stride words (length shared) start laid.long room
    ∙ ap (λ at. row_set at stride words) is ∙ sym (row-sets_by stride words stored i inside))
    ∙ set-get_or (sets_by stride words stored) i set.empty

-- ---- members below the width

pub AllBelow-insert : (width n : ℕ) (s : NumberSet) → AllBelow width s → n < width → AllBelow width (set.insert s n)
AllBelow-insert width n s below lt q m = elim (cases_eq q n) [
  | inl same ↦ omega arith
  | inr ne ↦ below q (let e = contains-insert_nat s n q in grind (arith, e, m))
]

pub AllBelow-union : (width : ℕ) (s t : NumberSet) → AllBelow width s → AllBelow width t
    → AllBelow width (set.union s t)
AllBelow-union width s t a b q m = by (set.contains s q) refl
  where
    by : (x : Bool) → set.contains s q ≡ x → q < width
    by true e = a q e
    by false e = b q (sym (ap (λ x. x || set.contains t q) e) ∙ sym (contains-union_nat s t q) ∙ m)

-- the rows after one of them became another set
pub AllBelow-set : (width : ℕ) (sets : List NumberSet) (i : ℕ) (s : NumberSet) → ((j : ℕ) → AllBelow width (row sets j))
    → AllBelow width s → i < length sets → (j : ℕ) → AllBelow width (row (set sets i s) j)
AllBelow-set width sets i s bounds below lt j = elim (cases_eq j i) [
  | inl same ↦ subst (λ t. AllBelow width t) (sym (ap (λ k. row (set sets i s) k) same
      ∙ get_or-set_same sets i s set.empty lt)) below
  | inr ne ↦ subst (λ t. AllBelow width t) (sym (get_or-set_other sets i j s set.empty ne)) (bounds j)
]

pub AllBelow-empty : (width : ℕ) → AllBelow width set.empty
AllBelow-empty width n m = absurd (let e : false ≡ true = sym (contains-empty nat_cmp n) ∙ m in cc)

-- ---- unions

pub union-idem : (s : NumberSet) → set.union s s ≡ s
union-idem s = same_members (set.union s s) s (λ q. contains-union_nat s s q ∙ or_same (set.contains s q))
  where
    or_same : (b : Bool) → (b || b) ≡ b
    or_same true = refl
    or_same false = refl

pub union-comm_nat : (s t : NumberSet) → set.union s t ≡ set.union t s
union-comm_nat s t = same_members (set.union s t) (set.union t s) (λ q. contains-union_nat s t q
    ∙ or_comm (set.contains s q) (set.contains t q) ∙ sym (contains-union_nat t s q))
  where
    or_comm : (a b : Bool) → (a || b) ≡ (b || a)
    or_comm true true = refl
    or_comm true false = refl
    or_comm false true = refl
    or_comm false false = refl

-- ---- new rows

zeros_read : (n k : ℕ) → ◌≡◌ {A = ℕ} (get_or (replicate n 0) k 0) 0
zeros_read n k = elim (cases_lt k n) [
  | inl lt ↦ get_or-replicate n k 0 0 lt
  | inr ge ↦ get_or_past (replicate n 0) k 0 (omega (arith, length-replicate {A = ℕ} n 0))
]

pub set_of-zeros : (n : ℕ) → set_of (replicate n 0) ≡ set.empty
set_of-zeros n = same_members (set_of (replicate n 0)) set.empty (λ q.
    contains-set_of (replicate n 0) q ∙ ap (λ w. bit_at w (q % 64) == 1) (zeros_read n (q / 64))
    ∙ ap (λ b. b == 1) (bit_at-zero (q % 64)) ∙ sym (contains-empty nat_cmp q))

-- all words are one row
pub row_set-whole : (words : List ℕ) (len : ℕ) → length words ≡ len → row_set 0 len words ≡ set_of words
row_set-whole words len e = ap set_of (take_all len words (omega arith))

-- rows that all name one stored row, which has no member
pub sets_by-new : (stride rows : ℕ) → sets_by stride (replicate stride 0) (replicate rows 0) ≡ replicate rows set.empty
sets_by-new stride zero = refl
sets_by-new stride (suc rows) =
    let none : 0 * stride ≡ 0 = omega arith in
    ap₂ (λ s ss. s ∷ ss) (ap (λ at. row_set at stride (replicate stride 0)) none
    ∙ row_set-whole (replicate stride 0) stride (length-replicate stride 0) ∙ set_of-zeros stride)
    (sets_by-new stride rows)

pub row-empty : (rows i : ℕ) → row (replicate rows set.empty) i ≡ set.empty
row-empty rows i = elim (cases_lt i rows) [
  | inl lt ↦ get_or-replicate rows i set.empty set.empty lt
  | inr ge ↦
      get_or_past (replicate rows set.empty) i set.empty
      (omega (arith, length-replicate rows (set.empty {R = nat_cmp})))
]
