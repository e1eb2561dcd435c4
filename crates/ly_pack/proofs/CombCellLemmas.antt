-- The entries of each row of a comb, gathered slot by slot.
use Rattle.std.proofs.Common.{◌≡◌, ◌∙◌, ◌<◌, ◌≤◌, ◌+◌, ◌++◌, ◌∷◌, [], ℕ, List, length, map, Option, Some, None}
use Rattle.std.proofs.Common.{refl, sym, ap, subst, arith, inl, inr, Contains, nat_eq, nat_lt, slice_get, slice_set}
use Rattle.std.proofs.Common.{lt-ltb, get_or}
use Rattle.std.specs.Prelude.{option_and_then, replicate}
use Rattle.std.specs.Global.{Vec}
use Rattle.std.proofs.lemmas.Bool.{cases_eq, cases_lt, cond-false, cond-true, eq-eqb, le-ltb, ne_eqb}
use Rattle.std.proofs.lemmas.List.{get_or-replicate, length-map, length-replicate, length-set}
use Rattle.std.proofs.lemmas.List.Elements.{Contains-append_left, Contains-get_or, Contains-push, Contains-push_cases}
use Rattle.std.proofs.lemmas.List.Quantifiers.{all_pairs_push}
use Rattle.std.proofs.lemmas.Option.{none-some, same_Some, slice_get-get_or, slice_get-map, slice_get_past}
use Rattle.std.proofs.lemmas.Option.{slice_get_read, slice_get_within}
use Rattle.std.specs.Prelude.{option_map}
use Rattle.ly_base.proofs.CellLemmas.{slice_get-set_other, slice_get-set_same}
use Rattle.ly_base.proofs.ListLemmas.{some_at}
use Rattle.ly_base.proofs.MemberLemmas.{Contains-none}
use Rattle.ly_pack.specs.Combs.{comb_from, used_from}
use Rattle.ly_pack.specs.Rows.{AreAllCellsOf, AreRising, Comb, Counted, IsComb, Used, comb_entry, given_to}
use Rattle.ly_pack.specs.declared.cell.Cell.{Cell}
use Rattle.ly_pack.specs.declared.comb_rows.Slot.{Slot}

-- The entries of a row that the first slots give it.
pub record AreCellsBelow {E : Type 0} (c : Comb E) (k row base : ℕ) (cells : List (Cell E)) : Type 0 where
  pub rising : AreRising cells
  pub sound : (x : Cell E) → Contains cells x → (comb_entry c row x.column ≡ Some x.entry) × (base + x.column < k)
  pub whole : (column : ℕ) (e : E) → base + column < k → comb_entry c row column ≡ Some e
      → Contains cells (record { column = column; entry = e })

-- Those of each row.
pub record AreAllBelow {E : Type 0} (c : Comb E) (k : ℕ) (lists : List (Vec (Cell E))) : Type 0 where
  pub count : length lists ≡ length c.bases
  pub each : (row base : ℕ) (cells : Vec (Cell E)) → slice_get lists row ≡ Some cells
      → slice_get c.bases row ≡ Some base → AreCellsBelow c k row base cells.items

module _ {E : Type 0} (c : Comb E) where
  comb_at : (row column base : ℕ) (s : Option (Used E)) → slice_get c.bases row ≡ Some base → column < c.width
      → slice_get c.slots (base + column) ≡ Some s → comb_entry c row column ≡ option_and_then (given_to row) s
  comb_at row column base s at lt slot = cond-true (nat_lt column c.width) _ None (lt-ltb column c.width lt)
      ∙ ap (option_and_then (λ (b : ℕ). option_and_then (λ (o : Option (Used E)). option_and_then (given_to row) o)
      (slice_get c.slots (b + column)))) at
      ∙ ap (option_and_then (λ (o : Option (Used E)). option_and_then (given_to row) o)) slot

  comb_wide : (row column : ℕ) (e : E) → comb_entry c row column ≡ Some e → column < c.width
  comb_wide row column e is = elim (cases_lt column c.width) [
    | inl lt ↦ lt
    | inr past ↦ absurd (none-some e (sym (cond-false (nat_lt column c.width) _ None (le-ltb column c.width past))
        ∙ is))
  ]

  comb_based : (row column : ℕ) (e : E) → comb_entry c row column ≡ Some e
      → (base : ℕ) × (slice_get c.bases row ≡ Some base)
  comb_based row column e is = elim (cases_lt row (length c.bases)) [
    | inl lt ↦ some_at c.bases row lt
    | inr past ↦ absurd (none-some e (sym (cond-true (nat_lt column c.width) _ None
        (lt-ltb column c.width (comb_wide row column e is))
        ∙ ap (option_and_then (λ (b : ℕ). option_and_then (λ (o : Option (Used E)). option_and_then (given_to row) o)
        (slice_get c.slots (b + column)))) (slice_get_past c.bases row past)) ∙ is))
  ]

  comb_slot : (row column base : ℕ) (e : E) → slice_get c.bases row ≡ Some base → comb_entry c row column ≡ Some e
      → base + column < length c.slots
  comb_slot row column base e at is = elim (cases_lt (base + column) (length c.slots)) [
    | inl lt ↦ lt
    | inr past ↦ absurd (none-some e (sym (cond-true (nat_lt column c.width) _ None
        (lt-ltb column c.width (comb_wide row column e is))
        ∙ ap (option_and_then (λ (b : ℕ). option_and_then (λ (o : Option (Used E)). option_and_then (given_to row) o)
        (slice_get c.slots (b + column)))) at
        ∙ ap (option_and_then (λ (o : Option (Used E)). option_and_then (given_to row) o))
        (slice_get_past c.slots (base + column) past)) ∙ is))
  ]

  -- before the first slot
  pub below_none : (lists : List (Vec (Cell E)))
      → map (λ (v : Vec (Cell E)). v.items) lists ≡ replicate (length c.bases) [] → AreAllBelow c 0 lists
  below_none lists none = record {
    count = sym (length-map lists (λ (v : Vec (Cell E)). v.items)) ∙ ap length none
        ∙ length-replicate (length c.bases) [];
    each = λ row base cells at there. subst (AreCellsBelow c 0 row base) (sym (empty row cells at)) (record {
      rising = λ i j d lt small. absurd (omega (arith, small));
      sound = λ x has. Contains-none x has;
      whole = λ column e lt is. absurd (omega (arith, lt));
    });
  }
    where
      empty : (row : ℕ) (cells : Vec (Cell E)) → slice_get lists row ≡ Some cells → cells.items ≡ []
      empty row cells at =
          let lt = slice_get_within lists row cells at in
          let long : row < length c.bases = omega (
            arith,
            lt,
            length-map lists (λ (v : Vec (Cell E)). v.items),
            ap length none,
            length-replicate (length c.bases) (let n : List (Cell E) = [] in n),
          ) in
          same_Some cells.items [] (sym (slice_get-map (λ (v : Vec (Cell E)). v.items) lists row
          ∙ ap (option_map (λ (v : Vec (Cell E)). v.items)) at)
          ∙ ap (λ ls. slice_get ls row) none
          ∙ slice_get-get_or (replicate (length c.bases) []) row [] (omega (
            arith,
            long,
            length-replicate (length c.bases) (let n : List (Cell E) = [] in n),
          ))
          ∙ ap Some (get_or-replicate (length c.bases) row [] [] long))

  module _ (k : ℕ) (lists : List (Vec (Cell E))) (so : AreAllBelow c k lists) where
    -- a row to which the slot gives nothing
    not_here : (row base : ℕ) (s : Option (Used E)) (cells : List (Cell E)) → slice_get c.bases row ≡ Some base
        → slice_get c.slots k ≡ Some s → option_and_then (given_to row) s ≡ None → AreCellsBelow c k row base cells
        → AreCellsBelow c (k + 1) row base cells
    not_here row base s cells at slot none was = record {
      rising = was.rising;
      sound = λ x has. let one = was.sound x has in (one.0, omega (arith, one.1));
      whole = λ column e lt is. elim (cases_lt (base + column) k) [
        | inl less ↦ was.whole column e less is
        | inr last ↦
            let here : k ≡ base + column = omega (arith, lt, last) in
            absurd (none-some e (sym none ∙ sym (comb_at row column base s at (comb_wide row column e is)
            (ap (slice_get c.slots) (sym here) ∙ slot)) ∙ is))
      ];
    }

    -- a slot that no row uses
    pub below_skip : slice_get c.slots k ≡ Some None → AreAllBelow c (k + 1) lists
    below_skip slot = record {
      count = so.count;
      each = λ row base cells at there. not_here row base None cells.items there slot refl
          (so.each row base cells at there);
    }

    -- one that a row uses
    pub below_push : (row base column : ℕ) (entry : E) (old new : Vec (Cell E))
        → slice_get c.slots k ≡ Some (Some (record { row = row; entry = entry })) → slice_get c.bases row ≡ Some base
        → base + column ≡ k → column < c.width → slice_get lists row ≡ Some old
        → new.items ≡ old.items ++ (record { column = column; entry = entry }) ∷ []
        → AreAllBelow c (k + 1) (slice_set lists row new)
    below_push row base column entry old new slot based place wide at is = record {
      count = length-set lists row new ∙ so.count;
      each = λ r b cells there from. elim (cases_eq r row) [
        | inl same ↦
            let this : Some cells ≡ Some new = sym there ∙ ap (slice_get (slice_set lists row new)) same
            ∙ slice_get-set_same lists row new (slice_get_within lists row old at) in
            let based_same : base ≡ b = same_Some base b (sym based ∙ ap (slice_get c.bases) (sym same) ∙ from) in
            subst (λ n. AreCellsBelow c (k + 1) n b cells.items) (sym same)
            (subst (λ n. AreCellsBelow c (k + 1) row n cells.items) based_same
            (subst (AreCellsBelow c (k + 1) row base)
            (sym (ap (λ (v : Vec (Cell E)). v.items) (same_Some cells new this) ∙ is)) pushed))
        | inr other ↦
            let was = sym (slice_get-set_other lists row r new other) ∙ there in
            not_here r b (Some (record { row = row; entry = entry })) cells.items from slot
            (cond-false (nat_eq row r) (Some entry) None (ne_eqb row r (λ e. other (sym e))))
            (so.each r b cells was from)
      ];
    }
      where
        cell : Cell E
        cell = record { column = column; entry = entry }

        was : AreCellsBelow c k row base old.items
        was = so.each row base old at based

        here : comb_entry c row column ≡ Some entry
        here = comb_at row column base (Some (record { row = row; entry = entry })) based wide
            (ap (slice_get c.slots) place ∙ slot)
            ∙ cond-true (nat_eq row row) (Some entry) None (eq-eqb row row refl)

        pushed : AreCellsBelow c (k + 1) row base (old.items ++ (record { column = column; entry = entry }) ∷ [])
        pushed = record {
          rising = all_pairs_push (λ (x y : Cell E). x.column < y.column) old.items cell was.rising (λ i d lt.
              let one = (was.sound (get_or old.items i d) (Contains-get_or old.items i d lt)).1 in
              omega (arith, one, place));
          sound = λ x has. elim (Contains-push_cases old.items cell x has) [
            | inl earlier ↦ let one = was.sound x earlier in (one.0, omega (arith, one.1))
            | inr same ↦ subst (λ (y : Cell E). (comb_entry c row y.column ≡ Some y.entry) × (base + y.column < k + 1))
                same (here, omega (arith, place))
          ];
          whole = λ t e lt some. elim (cases_lt (base + t) k) [
            | inl less ↦ Contains-append_left old.items (cell ∷ []) (record { column = t; entry = e })
                (was.whole t e less some)
            | inr last ↦
                let same : column ≡ t = omega (arith, place, lt, last) in
                let both : entry ≡ e = same_Some entry e (sym here ∙ ap (comb_entry c row) same ∙ some) in
                subst (λ (n : ℕ). Contains (old.items ++ cell ∷ []) (record { column = n; entry = e })) same
                (subst (λ (f : E). Contains (old.items ++ cell ∷ []) (record { column = column; entry = f })) both
                (Contains-push old.items cell))
          ];
        }

  -- behind the last one, where these lists are counted
  pub below_all : (k : ℕ) (lists : List (Vec (Cell E))) (counted : List (Counted E))
      → map (λ (v : Counted E). v.value) counted ≡ lists → length c.slots ≤ k → AreAllBelow c k lists
      → AreAllCellsOf (comb_entry c) (length c.bases) c.width counted
  below_all k lists counted same past so = record {
    count = sym (length-map counted (λ (v : Counted E). v.value)) ∙ ap length same ∙ so.count;
    each = λ row cells at.
        let there = listed row cells at in
        let based = based_at row cells.value there in
        let was = so.each row based.0 cells.value there based.1 in
        record {
          rising = was.rising;
          sound = λ x has. (was.sound x has).0;
          whole = λ column e is.
              let small = comb_slot row column based.0 e based.1 is in
              was.whole column e (omega (arith, small, past)) is;
        };
    within = λ row cells at j d lt.
        let there = listed row cells at in
        let based = based_at row cells.value there in
        let x = get_or cells.value.items j d in
        comb_wide row x.column x.entry ((so.each row based.0 cells.value there based.1).sound x
        (Contains-get_or cells.value.items j d lt)).0;
  }
    where
      listed : (row : ℕ) (cells : Counted E) → slice_get counted row ≡ Some cells
          → slice_get lists row ≡ Some cells.value
      listed row cells at = ap (λ ls. slice_get ls row) (sym same)
          ∙ slice_get-map (λ (v : Counted E). v.value) counted row
          ∙ ap (option_map (λ (v : Counted E). v.value)) at

      based_at : (row : ℕ) (cells : Vec (Cell E)) → slice_get lists row ≡ Some cells
          → (base : ℕ) × (slice_get c.bases row ≡ Some base)
      based_at row cells there =
          let lt = slice_get_within lists row cells there in
          some_at c.bases row (omega (arith, lt, so.count))

-- what a slot says that is read
module _ {E : Type 0} (width : ℕ) (bases : List ℕ) (slots items : List (Option (Slot E))) (c : Comb E)
    (view : comb_from width bases slots ≡ c) (so : IsComb (comb_from width bases slots)) (same : items ≡ slots)
    (place : ℕ) (lt : place < length items) (x : Option (Slot E)) (read : x ≡ get_or items place x) where
  pub slot_seen : slice_get c.slots place ≡ Some (option_map used_from x)
  slot_seen = ap (λ (d : Comb E). slice_get d.slots place) (sym view)
      ∙ slice_get-map (option_map used_from) slots place
      ∙ ap (option_map (option_map used_from)) (ap (λ ls. slice_get ls place) (sym same)
      ∙ slice_get_read items (length items) place x refl lt read)

  module _ (s : Slot E) (is : x ≡ Some s) where
    pub slot_used : slice_get c.slots place ≡ Some (Some (used_from s))
    slot_used = slot_seen ∙ ap (λ (o : Option (Slot E)). Some (option_map used_from o)) is

    pub slot_place : (base : ℕ) × (slice_get c.bases s.row.0 ≡ Some base) × (base ≤ place) × (place < base + c.width)
    slot_place = (subst IsComb view so).slots place (used_from s) slot_used

    pub slot_base : slice_get bases s.row.0 ≡ Some slot_place.0
    slot_base = ap (λ (d : Comb E). slice_get d.bases s.row.0) view ∙ slot_place.1
