-- A row that is placed beside the earlier ones.
use Rattle.std.proofs.Common.{◌≡◌, ◌≢◌, ◌∙◌, ◌<◌, ◌≤◌, ◌+◌, ◌-◌, ℕ, suc, List, [], length, Option, Some, None}
use Rattle.std.proofs.Common.{refl, sym, ap, subst, arith, inl, inr, ◌⊎◌, slice_get, set, length-set, get_or, replicate}
use Rattle.std.specs.Global.{Vec}
use Rattle.std.specs.Prelude.{option_and_then}
use Rattle.std.proofs.lemmas.Bool.{cases_lt, cases_order, cases_eq}
use Rattle.std.proofs.lemmas.List.{get_or-replicate, length-replicate}
use Rattle.std.proofs.lemmas.Option.{get_or_from_slice_get, same_Some, none-some, slice_get_past, slice_get_within}
use Rattle.ly_pack.specs.Placement.{Fits, GoesBefore, Has, Table}
use Rattle.ly_pack.specs.Private.Order.{IsOrder, columns_of}
use Rattle.ly_pack.specs.Private.Bits.{taken, AreStillTaken, AreTakenBelow, IsFreeAt, IsTakenAt}
use Rattle.ly_pack.specs.Private.Placing.{AreLaid, AreTied, IsFilled, IsRowPlaced, Uses, flag, slot_at}
use Rattle.ly_pack.specs.Private.Placing.{slot_of}
use Rattle.ly_pack.specs.Rows.{Entries}
use Rattle.ly_pack.specs.declared.comb_rows.Slot.{Slot}
use Rattle.ly_base.proofs.CellLemmas.{slice_get-set_same, slice_get-set_other}
use Rattle.ly_pack.proofs.OrderLemmas.{column_at, has_column}

pub before_not : {E : Type 0} (T : Table E) (r s : ℕ) → GoesBefore T r s → GoesBefore T s r → ⊥
before_not T r s (inl a) (inl b) = omega (arith, a, b)
before_not T r s (inl a) (inr b) = omega (arith, a, b.0)
before_not T r s (inr a) (inl b) = omega (arith, a.0, b)
before_not T r s (inr a) (inr b) = omega (arith, a.1, b.1)

module _ {E : Type 0} (T : Table E) (order : List ℕ) (ordered : IsOrder T order) where
  -- the order tells where a row stands
  pub goes_at : (i j r s : ℕ) → slice_get order i ≡ Some r → slice_get order j ≡ Some s → GoesBefore T r s → i < j
  goes_at i j r s at_r at_s goes = elim (cases_order i j) [
    | inl same ↦ let one : r ≡ s = same_Some r s (sym at_r ∙ ap (slice_get order) same ∙ at_s) in
        let self = subst (λ k. GoesBefore T r k) (sym one) goes in absurd (before_not T r r self self)
    | inr (inl less) ↦ less
    | inr (inr more) ↦ absurd (before_not T r s goes (ordered.before j i s r more at_s at_r))
  ]

  pub rows_apart : (i j r s : ℕ) → i < j → slice_get order i ≡ Some r → slice_get order j ≡ Some s → r ≢ s
  rows_apart i j r s lt at_r at_s same =
      let self = subst (λ k. GoesBefore T r k) (sym same) (ordered.before i j r s lt at_r at_s) in
      before_not T r r self self

-- a place is one of a row's entries, or not
module _ {E : Type 0} (T : Table E) (row base k : ℕ) where
  hit_at : base ≤ k → k - base < T.width → (o : Option E) → T.entries row (k - base) ≡ o
      → ((column : ℕ) × (e : E) × (column < T.width) × (T.entries row column ≡ Some e) × (k ≡ base + column))
      ⊎ ((column : ℕ) → Has T row column → k ≢ base + column)
  hit_at from within None is = inr (λ column has at. let same : column ≡ k - base = omega (arith, at) in
      none-some has.1 (sym is ∙ ap (T.entries row) (sym same) ∙ has.2))
  hit_at from within (Some e) is = inl (k - base, e, within, is, omega arith)

  pub hit_cases : ((column : ℕ) × (e : E) × (column < T.width) × (T.entries row column ≡ Some e) × (k ≡ base + column))
      ⊎ ((column : ℕ) → Has T row column → k ≢ base + column)
  hit_cases = elim (cases_lt k base) [
    | inl below ↦ inr (λ column has at. omega (arith, at))
    | inr from ↦ elim (cases_lt (k - base) T.width) [
      | inl within ↦ hit_at from within (T.entries row (k - base)) refl
      | inr past ↦ inr (λ column has at. omega (arith, at, has.0))
    ]
  ]

module _ {E : Type 0} (T : Table E) (order : List ℕ) (ordered : IsOrder T order) (n row : ℕ)
    (at : slice_get order n ≡ Some row) (bases : List ℕ) (old new : List (Option (Slot E))) (base : ℕ)
    (so : AreLaid T order n bases old) (now : IsRowPlaced T row old new base) where
  lt_row : row < length bases
  lt_row = let within = ordered.within n row at in omega (arith, so.long)

  set_same : slice_get (set bases row base) row ≡ Some base
  set_same = slice_get-set_same bases row base lt_row

  set_other : (r : ℕ) → r ≢ row → slice_get (set bases row base) r ≡ slice_get bases r
  set_other r other = slice_get-set_other bases row r base other

  -- a row that goes before one of these isn't this one
  not_this : (i r other : ℕ) → i < n + 1 → slice_get order i ≡ Some r → GoesBefore T other r → other ≢ row
  not_this i r other lt at_r goes same =
      let later = goes_at T order ordered n i row r at at_r (subst (λ k. GoesBefore T k r) same goes) in omega arith

  fits_to : (i r b : ℕ) → i < n + 1 → slice_get order i ≡ Some r → Fits T bases r b
      → Fits T (set bases row base) r b
  fits_to i r b lt at_r fits other there column its small goes is = fits other there column its small goes
      (sym (set_other other (not_this i r other lt at_r goes)) ∙ is)

  fits_from : (i r b : ℕ) → i < n + 1 → slice_get order i ≡ Some r → Fits T (set bases row base) r b
      → Fits T bases r b
  fits_from i r b lt at_r fits other there column its small goes is = fits other there column its small goes
      (set_other other (not_this i r other lt at_r goes) ∙ is)

  -- an entry of this row, or of an earlier one
  uses_to : (k r : ℕ) (e : E) → slot_at new k ≡ Some (slot_of r e) → Uses T order (n + 1) (set bases row base) k r e
  uses_to k r e is = elim (hit_cases T row base k) [
    | inl hit ↦ let same = same_Some (slot_of row hit.1) (slot_of r e) (sym (now.filled.entries hit.0 hit.1 hit.2 hit.3)
        ∙ ap (slot_at new) (sym hit.4) ∙ is) in
        let same_row = ap (λ s. s.row.0) same in (
          n,
          base,
          hit.0,
          omega arith,
          at ∙ ap Some same_row,
          ap (slice_get (set bases row base)) (sym same_row) ∙ set_same,
          hit.2,
          ap (λ q. T.entries q hit.0) (sym same_row) ∙ hit.3 ∙ ap (λ s. Some s.entry) same,
          hit.4,
        )
    | inr miss ↦ let u = (so.uses k r e).0 (sym (now.filled.others k miss) ∙ is) in (
      u.0,
      u.1,
      u.2,
      omega (arith, u.3),
      u.4,
      set_other r (rows_apart T order ordered u.0 n r row u.3 u.4 at) ∙ u.5,
      u.6,
      u.7,
      u.8,
    )
  ]

  -- an earlier row's slot isn't one of this row
  kept : (k r : ℕ) (e : E) → slot_at old k ≡ Some (slot_of r e) → slot_at new k ≡ Some (slot_of r e)
  kept k r e is = now.filled.others k (λ column has at_k. none-some (slot_of r e) (sym (now.free column has)
      ∙ ap (slot_at old) (sym at_k) ∙ is)) ∙ is

  uses_from : (k r : ℕ) (e : E) → Uses T order (n + 1) (set bases row base) k r e → slot_at new k ≡ Some (slot_of r e)
  uses_from k r e u = elim (cases_lt u.0 n) [
    | inl less ↦ kept k r e ((so.uses k r e).1 (
      u.0,
      u.1,
      u.2,
      less,
      u.4,
      sym (set_other r (rows_apart T order ordered u.0 n r row less u.4 at)) ∙ u.5,
      u.6,
      u.7,
      u.8,
    ))
    | inr last ↦ let here : u.0 ≡ n = omega (arith, u.3) in
        let same : r ≡ row = same_Some r row (sym u.4 ∙ ap (slice_get order) here ∙ at) in
        let same_base : u.1 ≡ base = same_Some u.1 base (sym u.5 ∙ ap (slice_get (set bases row base)) same
        ∙ set_same) in
        ap (slot_at new) (u.8 ∙ ap (λ b. b + u.2) same_base)
        ∙ now.filled.entries u.2 e u.6 (ap (λ q. T.entries q u.2) (sym same) ∙ u.7)
        ∙ ap (λ q. Some (slot_of q e)) (sym same)
  ]

  -- what holds of the earlier rows, and of this one, holds of these
  each_row : (P : ℕ → ℕ → Type 0) → ((i r b : ℕ) → i < n → slice_get order i ≡ Some r → slice_get bases r ≡ Some b
      → P r b) → P row base → (i r b : ℕ) → i < n + 1 → slice_get order i ≡ Some r
      → slice_get (set bases row base) r ≡ Some b → P r b
  each_row P earlier this i r b lt at_r is = elim (cases_lt i n) [
    | inl less ↦ earlier i r b less at_r (sym (set_other r (rows_apart T order ordered i n r row less at_r at)) ∙ is)
    | inr last ↦ let here : i ≡ n = omega arith in
        let same : row ≡ r = same_Some row r (sym at ∙ ap (slice_get order) (sym here) ∙ at_r) in
        let same_base : base ≡ b = same_Some base b (sym set_same ∙ ap (slice_get (set bases row base)) same ∙ is) in
        subst (λ q. P q b) same (subst (P row) same_base this)
  ]

  -- no slot is shared with an earlier row
  this_fits : Fits T bases row base
  this_fits other there column its small goes is has its_has at_k =
      let place = ordered.all other small in
      let earlier = goes_at T order ordered place.0 n other row place.1 at goes in
      let used = (so.uses (there + its) other its_has.1).1 (
        place.0,
        there,
        its,
        earlier,
        place.1,
        is,
        its_has.0,
        its_has.2,
        refl,
      ) in
      none-some (slot_of other its_has.1) (sym (now.free column has) ∙ ap (slot_at old) at_k ∙ used)

  this_least : (lower : ℕ) → lower < base → Fits T bases row lower → ⊥
  this_least lower less fits =
      let taken = now.least lower less in
      let u = (so.uses (lower + taken.0) taken.2.row.0 taken.2.entry).0 taken.3 in
      fits taken.2.row.0 u.1 taken.0 u.2 (ordered.within u.0 taken.2.row.0 u.4)
      (ordered.before u.0 n taken.2.row.0 row u.3 u.4 at) u.5 taken.1 (u.6, taken.2.entry, u.7) u.8

  short_more : (k : ℕ) → suc k ≡ length new → (s : Slot E) × (slot_at new k ≡ Some s)
  short_more k last = elim (now.filled.short k last) [
    | inl was ↦ let s = so.short k was in elim (hit_cases T row base k) [
      | inl hit ↦ (slot_of row hit.1, ap (slot_at new) hit.4 ∙ now.filled.entries hit.0 hit.1 hit.2 hit.3)
      | inr miss ↦ (s.0, now.filled.others k miss ∙ s.1)
    ]
    | inr hit ↦ (slot_of row hit.1.1, ap (slot_at new) hit.2 ∙ now.filled.entries hit.0 hit.1.1 hit.1.0 hit.1.2)
  ]

  pub laid_more : AreLaid T order (n + 1) (set bases row base) new
  laid_more = record {
    long = length-set bases row base ∙ so.long;
    near = λ r b is. elim (cases_eq r row) [
      | inl same ↦ let same_base : base ≡ b = same_Some base b (sym set_same ∙ ap (slice_get (set bases row base)) (sym
          same) ∙ is) in omega (arith, now.within)
      | inr other ↦ let was = so.near r b (sym (set_other r other) ∙ is) in omega (arith, now.filled.grows)
    ];
    uses = λ k r e. (uses_to k r e, uses_from k r e);
    fits = λ i r b lt at_r is. fits_to i r b lt at_r (each_row (Fits T bases) so.fits this_fits i r b lt at_r is);
    least = λ i r b lower column lt at_r is has less fits. each_row (λ q c. Has T q column → lower < c
        → Fits T bases q lower → ⊥) (λ j q c lt_q at_q is_q. so.least j q c lower column lt_q at_q is_q)
        (λ _ small f. this_least lower small f) i r b lt at_r is has less (fits_from i r lower lt at_r fits);
    empty = each_row (λ q c. ((column : ℕ) → Has T q column → ⊥) → c ≡ 0) so.empty now.empty;
    short = short_more;
  }

pub slot_at_within : {X : Type 0} (slots : List (Option X)) (k : ℕ) (x : X) → slot_at slots k ≡ Some x
    → k < length slots
slot_at_within slots k x is = elim (cases_lt k (length slots)) [
  | inl lt ↦ lt
  | inr past ↦ absurd (none-some x (sym (ap (option_and_then (λ slot. slot)) (slice_get_past slots k past)) ∙ is))
]

pub flag-none : {X : Type 0} (o : Option X) → flag o ≡ 0 → o ≡ None
flag-none None e = refl
flag-none (Some x) e = absurd (omega (arith, e))

pub flag-some : {X : Type 0} (o : Option X) → flag o ≡ 1 → (x : X) × (o ≡ Some x)
flag-some None e = absurd (omega (arith, e))
flag-some (Some x) e = (x, refl)

-- The entries of the row's first n columns have been put into the slots from a base on, and nothing else.
pub record IsPartFilled {E : Type 0} (entries : Entries E) (row base : ℕ) (columns : List ℕ) (n : ℕ)
    (old new : List (Option (Slot E))) : Type 0 where
  pub filled : (j : ℕ) (e : E) → j < n → entries row (get_or columns j 0) ≡ Some e
      → slot_at new (base + get_or columns j 0) ≡ Some (slot_of row e)
  pub others : (k : ℕ) → ((j : ℕ) → j < n → k ≢ base + get_or columns j 0) → slot_at new k ≡ slot_at old k
  pub grows : length old ≤ length new
  pub short : (k : ℕ) → suc k ≡ length new
      → (suc k ≡ length old) ⊎ ((j : ℕ) × (j < n) × (k ≡ base + get_or columns j 0))

module _ {E : Type 0} (entries : Entries E) (row base : ℕ) (columns : List ℕ) (n : ℕ)
    (start before : List (Option (Slot E))) (so : IsPartFilled entries row base columns n start before) where
  -- one entry more is put into its slot
  module _ (after : List (Option (Slot E))) (e : E) (is : entries row (get_or columns n 0) ≡ Some e)
      (same : slot_at after (base + get_or columns n 0) ≡ Some (slot_of row e))
      (others : (k : ℕ) → k ≢ base + get_or columns n 0 → slot_at after k ≡ slot_at before k)
      (grows : length before ≤ length after)
      (short : (k : ℕ) → suc k ≡ length after → (k ≡ base + get_or columns n 0) ⊎ (suc k ≡ length before)) where
    filled_more : (j : ℕ) (f : E) → j < n + 1 → entries row (get_or columns j 0) ≡ Some f
        → slot_at after (base + get_or columns j 0) ≡ Some (slot_of row f)
    filled_more j f lt is_f = elim (cases_eq (base + get_or columns j 0) (base + get_or columns n 0)) [
      | inl here ↦ let column : get_or columns n 0 ≡ get_or columns j 0 = omega (arith, here) in
          ap (slot_at after) here ∙ same
          ∙ ap (λ g. Some (slot_of row g)) (same_Some e f (sym is ∙ ap (entries row) column ∙ is_f))
      | inr other ↦ elim (cases_eq j n) [
        | inl last ↦ absurd (other (ap (λ i. base + get_or columns i 0) last))
        | inr less ↦ others (base + get_or columns j 0) other ∙ so.filled j f (omega (arith, lt, less)) is_f
      ]
    ]

    pub part_more : IsPartFilled entries row base columns (n + 1) start after
    part_more = record {
      filled = filled_more;
      others = λ k miss. others k (miss n (omega arith)) ∙ so.others k (λ j lt. miss j (omega (arith, lt)));
      grows = omega (arith, grows, so.grows);
      short = λ k last. elim (short k last) [
        | inl here ↦ inr (n, omega arith, here)
        | inr was ↦ elim (so.short k was) [
          | inl first ↦ inl first
          | inr hit ↦ inr (hit.0, omega (arith, hit.1), hit.2)
        ]
      ];
    }

-- a row's entries are in their slots once each column had its turn
pub filled_all : {E : Type 0} (T : Table E) (row base : ℕ) (columns : List ℕ) (start slots : List (Option (Slot E)))
    → columns ≡ columns_of T.entries T.width row
    → IsPartFilled T.entries row base columns (length columns) start slots → IsFilled T row start slots base
filled_all T row base columns start slots is so = record {
  entries = λ column e lt at. let found = column_at T row columns is column (lt, e, at) in
      ap (λ c. slot_at slots (base + c)) (sym found.2)
      ∙ so.filled found.0 e found.1 (ap (T.entries row) found.2 ∙ at);
  others = λ k miss. so.others k (λ j lt. miss (get_or columns j 0) (has_column T row columns is j lt));
  grows = so.grows;
  short = λ k last. elim (so.short k last) [
    | inl was ↦ inl was
    | inr hit ↦ inr (get_or columns hit.0 0, has_column T row columns is hit.0 hit.1, hit.2)
  ];
}

-- a row without entries
pub placed_none : {E : Type 0} (T : Table E) (row : ℕ) (columns : List ℕ) (slots : List (Option (Slot E)))
    → columns ≡ columns_of T.entries T.width row → length columns ≡ 0 → IsRowPlaced T row slots slots 0
placed_none {E} T row columns slots is none = record {
  free = λ column has. absurd (not_one column has);
  least = λ lower lt. absurd (omega (arith, lt));
  empty = λ h. refl;
  filled = record {
    entries = λ column e lt at. absurd (not_one column (lt, e, at));
    others = λ k miss. refl;
    grows = omega arith;
    short = λ k last. inl last;
  };
  within = omega arith;
}
  where
    not_one : (column : ℕ) → Has T row column → ⊥
    not_one column has = let found = column_at T row columns is column has in omega (arith, found.1, none)

-- a row at the first base that the bits leave
pub placed_some : {E : Type 0} (T : Table E) (row base : ℕ) (columns words : List ℕ) (old new : List (Option (Slot E)))
    → columns ≡ columns_of T.entries T.width row → 0 < length columns → AreTied words old
    → IsFreeAt words columns base → ((lower : ℕ) → lower < base → IsTakenAt words columns lower)
    → IsFilled T row old new base → IsRowPlaced T row old new base
placed_some {E} T row base columns words old new is some tied free least filled = record {
  free = λ column has. let found = column_at T row columns is column has in
      flag-none (slot_at old (base + column)) (sym (tied (base + column))
      ∙ ap (λ c. taken words (base + c)) (sym found.2)
      ∙ free found.0 found.1);
  least = λ lower lt. let hit = least lower lt in
      let s = flag-some (slot_at old (lower + get_or columns hit.0 0)) (sym (tied (lower + get_or columns hit.0 0))
      ∙ hit.2) in
      (get_or columns hit.0 0, has_column T row columns is hit.0 hit.1, s.0, s.1);
  empty = λ none. absurd (none (get_or columns 0 0) (has_column T row columns is 0 some));
  filled = filled;
  within = let has = has_column T row columns is 0 some in
      let within = slot_at_within new (base + get_or columns 0 0) (slot_of row has.1) (filled.entries
      (get_or columns 0 0)
      has.1 has.0 has.2) in
      omega (arith, within);
}

-- a place that was taken still is behind a row that is placed
pub placed_keeps : {E : Type 0} (T : Table E) (row base : ℕ) (before after : List ℕ) (old new : List (Option (Slot E)))
    → AreTied before old → AreTied after new → IsRowPlaced T row old new base → AreStillTaken before after
placed_keeps T row base before after old new was is placed k taken =
    let used = flag-some (slot_at old k) (sym (was k) ∙ taken) in
    let same : slot_at new k ≡ slot_at old k = placed.filled.others k (λ column has here.
    none-some used.0 (sym (placed.free column has) ∙ ap (slot_at old) (sym here) ∙ used.1)) in
    is k ∙ ap flag same ∙ sym (was k) ∙ taken

-- and so a base that was refused still is
pub still_taken : (before after columns : List ℕ) (base : ℕ) → AreStillTaken before after
    → IsTakenAt before columns base → IsTakenAt after columns base
still_taken before after columns base still hit = (hit.0, hit.1, still (base + get_or columns hit.0 0) hit.2)

pub still_refused : (before after : List ℕ) (bases : List (Vec ℕ × ℕ)) → AreStillTaken before after
    → AreTakenBelow before bases → AreTakenBelow after bases
still_refused before after bases still refused columns base there lower lt =
    still_taken before after columns.items lower still (refused columns base there lower lt)

-- no row is placed yet
pub laid_none : {E : Type 0} (T : Table E) (order bases : List ℕ) (slots : List (Option (Slot E)))
    → bases ≡ replicate T.rows 0 → slots ≡ [] → AreLaid T order 0 bases slots
laid_none {E} T order bases slots all none = record {
  long = ap length all ∙ length-replicate T.rows 0;
  near = λ row base at. omega (arith, first row base at);
  uses = λ k row e. (
    λ is. absurd (none-some (slot_of row e) (ap (λ s. slot_at s k) (sym none) ∙ is)),
    λ u. absurd (omega (arith, u.3)),
  );
  fits = λ i row base lt. absurd (omega (arith, lt));
  least = λ i row base lower column lt. absurd (omega (arith, lt));
  empty = λ i row base lt. absurd (omega (arith, lt));
  short = λ k last. absurd (omega (arith, last, ap length none));
}
  where
    first : (row base : ℕ) → slice_get bases row ≡ Some base → base ≡ 0
    first row base at = sym (get_or_from_slice_get bases row base 0 at) ∙ ap (λ b. get_or b row 0) all
        ∙ get_or-replicate T.rows row 0 0 (omega (
          arith,
          slice_get_within bases row base at,
          ap length all ∙ length-replicate T.rows 0,
        ))
