-- Lists of cells: what they have in a column, and what a change leaves there.
use Rattle.std.proofs.Common.{◌≡◌, ◌∙◌, ◌<◌, ◌≤◌, ◌+◌, ◌++◌, ◌∷◌, [], ℕ, zero, suc, List, length, map, Option, Some}
use Rattle.std.proofs.Common.{None}
use Rattle.std.proofs.Common.{refl, sym, ap, ap₂, subst, arith, inl, inr, Bool, true, false, nat_eq, nat_lt, get_or}
use Rattle.std.proofs.Common.{take, drop}
use Rattle.std.proofs.Common.{Contains, All, slice_get}
use Rattle.std.specs.Prelude.{filter, if◌then◌else◌, AllPairs}
use Rattle.std.specs.List.{insert, range_with_len, remove}
use Rattle.std.specs.List.Sorted.{IsPartitionPoint, IsPartitionedBy}
use Rattle.std.proofs.Math.Seq.{drop-append_seam, drop-cons, take-append_seam}
use Rattle.std.proofs.lemmas.Bool.{cases_Bool, cases_lt, cond-true, cond-false, eq-eqb, eqb-true, lt-ltb, ltb-true}
use Rattle.std.proofs.lemmas.Bool.{ne_eqb}
use Rattle.std.proofs.lemmas.List.{get_or-drop, get_or-take, length-drop, length-take, take-append-drop}
use Rattle.std.proofs.lemmas.List.Elements.{Contains-get_or, All-append, All-cons, All-contains, All-head, All-tail}
use Rattle.std.proofs.lemmas.List.Kept.{AllPairs-cons}
use Rattle.std.proofs.lemmas.Option.{get_or_from_slice_get, none-some, same_Some, slice_get-get_or, slice_get_within}
use Rattle.ly_base.proofs.MemberLemmas.{Contains-cons_cases, Contains-first, Contains-later, Contains-none}
use Rattle.ly_pack.specs.Private.Cells.{AreCellsStill}
use Rattle.ly_pack.specs.Rows.{AreCellsOf, AreRising, entry_in}
use Rattle.ly_pack.specs.declared.cell.Cell.{Cell}

-- what holds of all pairs holds of the first and each later one, and of the later ones
pub pairs_head : {X : Type 0} (R : X → X → Type 0) (x : X) (xs : List X) → AllPairs R (x ∷ xs) → All (R x) xs
pairs_head R x xs pairs k d lt = pairs 0 (suc k) d (omega arith) (omega arith)

pub pairs_tail : {X : Type 0} (R : X → X → Type 0) (x : X) (xs : List X) → AllPairs R (x ∷ xs) → AllPairs R xs
pairs_tail R x xs pairs i j d lt within = pairs (suc i) (suc j) d (omega arith) (omega arith)

-- one of two parts
pub All-left : {X : Type 0} (P : X → Type 0) (xs ys : List X) → All P (xs ++ ys) → All P xs
All-left P [] ys all = λ k d lt. absurd (omega (arith, lt))
All-left P (x ∷ xs) ys all =
    All-cons P x xs (All-head P x (xs ++ ys) all) (All-left P xs ys (All-tail P x (xs ++ ys) all))

pub All-right : {X : Type 0} (P : X → Type 0) (xs ys : List X) → All P (xs ++ ys) → All P ys
All-right P [] ys all = all
All-right P (x ∷ xs) ys all = All-right P xs ys (All-tail P x (xs ++ ys) all)

-- one more between two parts, and one less
pub pairs_insert : {X : Type 0} (R : X → X → Type 0) (low : List X) (x : X) (high : List X) → AllPairs R (low ++ high)
    → All (λ y. R y x) low → All (R x) high → AllPairs R (low ++ x ∷ high)
pairs_insert R [] x high pairs below above = AllPairs-cons R x high above pairs
pairs_insert R (y ∷ low) x high pairs below above =
    let first = pairs_head R y (low ++ high) pairs in
    AllPairs-cons R y (low ++ x ∷ high) (All-append (R y) low (x ∷ high) (All-left (R y) low high first)
    (All-cons (R y) x high (All-head (λ z. R z x) y low below) (All-right (R y) low high first)))
    (pairs_insert R low x high (pairs_tail R y (low ++ high) pairs) (All-tail (λ z. R z x) y low below) above)

pub pairs_without : {X : Type 0} (R : X → X → Type 0) (low : List X) (x : X) (high : List X)
    → AllPairs R (low ++ x ∷ high) → AllPairs R (low ++ high)
pairs_without R [] x high pairs = pairs_tail R x high pairs
pairs_without R (y ∷ low) x high pairs =
    let first = pairs_head R y (low ++ x ∷ high) pairs in
    AllPairs-cons R y (low ++ high) (All-append (R y) low high (All-left (R y) low (x ∷ high) first)
    (All-tail (R y) x high (All-right (R y) low (x ∷ high) first)))
    (pairs_without R low x high (pairs_tail R y (low ++ x ∷ high) pairs))

pub pairs_right : {X : Type 0} (R : X → X → Type 0) (low high : List X) → AllPairs R (low ++ high) → AllPairs R high
pairs_right R [] high pairs = pairs
pairs_right R (y ∷ low) high pairs = pairs_right R low high (pairs_tail R y (low ++ high) pairs)

module _ {E : Type 0} where
  -- before the first column there is no entry
  pub entry_in-before : (cells : List (Cell E)) (column : ℕ) → All (λ c. column < c.column) cells
      → entry_in cells column ≡ None
  entry_in-before [] column above = refl
  entry_in-before (c ∷ cells) column above =
      let lt = All-head (λ (d : Cell E). column < d.column) c cells above in
      cond-false (nat_eq column c.column) (Some c.entry) (entry_in cells column)
      (ne_eqb column c.column (λ e. omega (arith, lt, e)))
      ∙ entry_in-before cells column (All-tail (λ (d : Cell E). column < d.column) c cells above)

  -- past columns that are all lower
  pub entry_in-behind : (low high : List (Cell E)) (column : ℕ) → All (λ c. c.column < column) low
      → entry_in (low ++ high) column ≡ entry_in high column
  entry_in-behind [] high column below = refl
  entry_in-behind (c ∷ low) high column below =
      let lt = All-head (λ (d : Cell E). d.column < column) c low below in
      cond-false (nat_eq column c.column) (Some c.entry) (entry_in (low ++ high) column)
      (ne_eqb column c.column (λ e. omega (arith, lt, e)))
      ∙ entry_in-behind low high column (All-tail (λ (d : Cell E). d.column < column) c low below)

  pub entry_in-contains : (cells : List (Cell E)) (column : ℕ) (e : E) → entry_in cells column ≡ Some e
      → Contains cells (record { column = column; entry = e })
  entry_in-contains [] column e is = absurd (none-some e is)
  entry_in-contains (c ∷ cells) column e is = elim (cases_Bool (nat_eq column c.column)) [
    | inl same ↦
        let at = eqb-true column c.column same in
        let here : Some c.entry ≡ Some e
        = sym (cond-true (nat_eq column c.column) (Some c.entry) (entry_in cells column) same) ∙ is in
        let whole : c ≡ record { column = column; entry = e }
        = ap₂ (λ (k : ℕ) (x : E). let d : Cell E = record { column = k; entry = x } in d) (sym at)
        (same_Some c.entry e here) in
        subst (Contains (c ∷ cells)) whole (Contains-first c cells)
    | inr other ↦ Contains-later c cells (record { column = column; entry = e }) (entry_in-contains cells column e
        (sym (cond-false (nat_eq column c.column) (Some c.entry) (entry_in cells column) other) ∙ is))
  ]

  pub contains-entry_in : (cells : List (Cell E)) (x : Cell E) → AreRising cells → Contains cells x
      → entry_in cells x.column ≡ Some x.entry
  contains-entry_in [] x rising has = Contains-none x has
  contains-entry_in (c ∷ cells) x rising has = elim (Contains-cons_cases c cells x has) [
    | inl same ↦ subst (λ (y : Cell E). entry_in (c ∷ cells) y.column ≡ Some y.entry) same
        (cond-true (nat_eq c.column c.column) (Some c.entry) (entry_in cells c.column) (eq-eqb c.column c.column refl))
    | inr later ↦
        let lt = All-contains (λ (d : Cell E). c.column < d.column) cells x
        (pairs_head (λ (a b : Cell E). a.column < b.column) c cells rising) later in
        cond-false (nat_eq x.column c.column) (Some c.entry) (entry_in cells x.column)
        (ne_eqb x.column c.column (λ e. omega (arith, lt, e)))
        ∙ contains-entry_in cells x (pairs_tail (λ (a b : Cell E). a.column < b.column) c cells rising) later
  ]

  -- rising cells are those of what they have in each column
  pub cells_are : (cells : List (Cell E)) → AreRising cells → AreCellsOf (entry_in cells) cells
  cells_are cells rising = record {
    rising = rising;
    sound = λ c has. contains-entry_in cells c rising has;
    whole = λ column e is. entry_in-contains cells column e is;
  }

  -- a cell that is put between others
  pub entry_in-insert : (low : List (Cell E)) (x : Cell E) (high : List (Cell E)) → All (λ c. c.column < x.column) low
      → (t : ℕ) → entry_in (low ++ x ∷ high) t
      ≡ (if nat_eq t x.column then Some x.entry else entry_in (low ++ high) t)
  entry_in-insert [] x high below t = refl
  entry_in-insert (c ∷ low) x high below t = elim (cases_Bool (nat_eq t c.column)) [
    | inl here ↦
        let lt = All-head (λ (d : Cell E). d.column < x.column) c low below in
        let at = eqb-true t c.column here in
        cond-true (nat_eq t c.column) (Some c.entry) (entry_in (low ++ x ∷ high) t) here
        ∙ sym (cond-false (nat_eq t x.column) (Some x.entry) (entry_in ((c ∷ low) ++ high) t)
        (ne_eqb t x.column (λ e. omega (arith, lt, at, e)))
        ∙ cond-true (nat_eq t c.column) (Some c.entry) (entry_in (low ++ high) t) here)
    | inr other ↦ cond-false (nat_eq t c.column) (Some c.entry) (entry_in (low ++ x ∷ high) t) other
        ∙ entry_in-insert low x high (All-tail (λ (d : Cell E). d.column < x.column) c low below) t
        ∙ ap (λ (o : Option E). if nat_eq t x.column then Some x.entry else o)
        (sym (cond-false (nat_eq t c.column) (Some c.entry) (entry_in (low ++ high) t) other))
  ]

  -- one that is taken away
  pub entry_in-without : (low : List (Cell E)) (x : Cell E) (high : List (Cell E)) → All (λ c. c.column < x.column) low
      → All (λ c. x.column < c.column) high → (t : ℕ) → entry_in (low ++ high) t
      ≡ (if nat_eq t x.column then None else entry_in (low ++ x ∷ high) t)
  entry_in-without low x high below above t = elim (cases_Bool (nat_eq t x.column)) [
    | inl here ↦
        let at : x.column ≡ t = sym (eqb-true t x.column here) in
        subst (λ k. entry_in (low ++ high) k ≡ None) at (entry_in-behind low high x.column below
        ∙ entry_in-before high x.column above)
        ∙ sym (cond-true (nat_eq t x.column) None (entry_in (low ++ x ∷ high) t) here)
    | inr other ↦ sym (cond-false (nat_eq t x.column) None (entry_in (low ++ x ∷ high) t) other
        ∙ entry_in-insert low x high below t
        ∙ cond-false (nat_eq t x.column) (Some x.entry) (entry_in (low ++ high) t) other)
  ]

  -- what a test of entries leaves of an entry
  abbrev pub kept : (E → Bool) → Option E → Option E
  kept test None = None
  kept test (Some e) = if test e then Some e else None

  kept_none : (test : E → Bool) (e : E) → test e ≡ false → kept test (Some e) ≡ None
  kept_none test e fails = cond-false (test e) (Some e) None fails

  kept_some : (test : E → Bool) (e : E) → test e ≡ true → kept test (Some e) ≡ Some e
  kept_some test e passes = cond-true (test e) (Some e) None passes

  -- and of a list
  pub entry_in-filter : (test : E → Bool) (cells : List (Cell E)) → AreRising cells → (t : ℕ)
      → entry_in (filter (λ c. test c.entry) cells) t ≡ kept test (entry_in cells t)
  entry_in-filter test [] rising t = refl
  entry_in-filter test (c ∷ cells) rising t =
      let rest = entry_in-filter test cells (pairs_tail (λ (a b : Cell E). a.column < b.column) c cells rising) t in
      elim (cases_Bool (test c.entry)) [
        | inl passes ↦ ap (λ (cs : List (Cell E)). entry_in cs t)
            (cond-true (test c.entry) (c ∷ filter (λ (d : Cell E). test d.entry) cells)
            (filter (λ (d : Cell E). test d.entry) cells) passes)
            ∙ elim (cases_Bool (nat_eq t c.column)) [
              | inl here ↦ cond-true (nat_eq t c.column) (Some c.entry)
                  (entry_in (filter (λ (d : Cell E). test d.entry) cells) t) here
                  ∙ sym (ap (kept test) (cond-true (nat_eq t c.column) (Some c.entry) (entry_in cells t) here)
                  ∙ kept_some test c.entry passes)
              | inr other ↦ cond-false (nat_eq t c.column) (Some c.entry)
                  (entry_in (filter (λ (d : Cell E). test d.entry) cells) t) other
                  ∙ rest
                  ∙ ap (kept test) (sym (cond-false (nat_eq t c.column) (Some c.entry) (entry_in cells t) other))
            ]
        | inr fails ↦ ap (λ (cs : List (Cell E)). entry_in cs t)
            (cond-false (test c.entry) (c ∷ filter (λ (d : Cell E). test d.entry) cells)
            (filter (λ (d : Cell E). test d.entry) cells) fails)
            ∙ rest
            ∙ elim (cases_Bool (nat_eq t c.column)) [
              | inl here ↦
                  let at : c.column ≡ t = sym (eqb-true t c.column here) in
                  let none : entry_in cells t ≡ None = subst (λ k. entry_in cells k ≡ None) at
                  (entry_in-before cells c.column
                  (pairs_head (λ (a b : Cell E). a.column < b.column) c cells rising)) in
                  ap (kept test) none
                  ∙ sym (ap (kept test) (cond-true (nat_eq t c.column) (Some c.entry) (entry_in cells t) here)
                  ∙ kept_none test c.entry fails)
              | inr other ↦ ap (kept test)
                  (sym (cond-false (nat_eq t c.column) (Some c.entry) (entry_in cells t) other))
            ]
      ]

-- the columns below a number come first
pub rising_parts : {E : Type 0} (cells : List (Cell E)) (column : ℕ) → AreRising cells
    → IsPartitionedBy (λ c. nat_lt c.column column) cells
rising_parts cells column rising i j d le small passes = elim (cases_lt i j) [
  | inl lt ↦
      let less = rising i j d lt small in
      let low = ltb-true (get_or cells j d).column column passes in
      lt-ltb (get_or cells i d).column column (omega (arith, less, low))
  | inr ge ↦
      let same : j ≡ i = omega (arith, le, ge) in
      subst (λ k. nat_lt (get_or cells k d).column column ≡ true) same passes
]

-- tests that agree from a number on
filter_from : (f g : ℕ → Bool) (n low : ℕ) → ((t : ℕ) → low ≤ t → f t ≡ g t)
    → filter f (range_with_len low n) ≡ filter g (range_with_len low n)
filter_from f g zero low same = refl
filter_from f g (suc n) low same =
    ap₂ (λ (b : Bool) (xs : List ℕ). if b then low ∷ xs else xs) (same low (omega arith))
    (filter_from f g n (low + 1) (λ t le. same t (omega (arith, le))))

module _ {E : Type 0} (test : Option E → Bool) (none : test None ≡ false) where
  -- the columns whose entries pass are those of the cells that do
  pub columns_pass : (n low : ℕ) (cells : List (Cell E)) → AreRising cells → All (λ c. low ≤ c.column) cells
      → All (λ c. c.column < low + n) cells
      → filter (λ t. test (entry_in cells t)) (range_with_len low n)
      ≡ map (λ c. c.column) (filter (λ c. test (Some c.entry)) cells)
  columns_pass zero low [] rising from to = refl
  columns_pass zero low (c ∷ cells) rising from to =
      let le = All-head (λ (d : Cell E). low ≤ d.column) c cells from in
      let lt = All-head (λ (d : Cell E). d.column < low + 0) c cells to in
      absurd (omega (arith, le, lt))
  columns_pass (suc n) low [] rising from to =
      cond-false (test None) (low ∷ filter (λ t. test None) (range_with_len (low + 1) n))
      (filter (λ t. test None) (range_with_len (low + 1) n)) none
      ∙ columns_pass n (low + 1) [] rising (λ k d lt. absurd (omega (arith, lt))) (λ k d lt. absurd (omega (arith, lt)))
  columns_pass (suc n) low (c ∷ cells) rising from to =
      let le = All-head (λ (d : Cell E). low ≤ d.column) c cells from in
      let later = pairs_tail (λ (a b : Cell E). a.column < b.column) c cells rising in
      let above = pairs_head (λ (a b : Cell E). a.column < b.column) c cells rising in
      elim (cases_lt low c.column) [
        | inl past ↦
            let all : All (λ (d : Cell E). low < d.column) (c ∷ cells) = All-cons (λ (d : Cell E). low < d.column) c
            cells past (λ k d lt. let one = above k d lt in omega (arith, one, past)) in
            ap (λ (b : Bool). if b then low ∷ filter (λ t. test (entry_in (c ∷ cells) t)) (range_with_len (low + 1) n)
            else filter (λ t. test (entry_in (c ∷ cells) t)) (range_with_len (low + 1) n))
            (ap test (entry_in-before (c ∷ cells) low all) ∙ none)
            ∙ columns_pass n (low + 1) (c ∷ cells) rising
            (λ k d lt. let one = all k d lt in omega (arith, one))
            (λ k d lt. let one = to k d lt in omega (arith, one))
        | inr here ↦
            let at : low ≡ c.column = omega (arith, le, here) in
            let first : entry_in (c ∷ cells) low ≡ Some c.entry
            = cond-true (nat_eq low c.column) (Some c.entry) (entry_in cells low) (eq-eqb low c.column at) in
            let rest : filter (λ t. test (entry_in (c ∷ cells) t)) (range_with_len (low + 1) n)
            ≡ map (λ d. d.column) (filter (λ d. test (Some d.entry)) cells)
            = filter_from (λ t. test (entry_in (c ∷ cells) t)) (λ t. test (entry_in cells t)) n (low + 1)
            (λ t more. ap test (cond-false (nat_eq t c.column) (Some c.entry) (entry_in cells t)
            (ne_eqb t c.column (λ e. omega (arith, at, more, e)))))
            ∙ columns_pass n (low + 1) cells later
            (λ k d lt. let one = above k d lt in omega (arith, one, at))
            (λ k d lt. let one = All-tail (λ (x : Cell E). x.column < low + suc n) c cells to k d lt in
            omega (arith, one)) in
            ap₂ (λ (o : Option E) (xs : List ℕ). if test o then low ∷ xs else xs) first rest
            ∙ ap (λ (k : ℕ). if test (Some c.entry) then k ∷ map (λ (d : Cell E). d.column)
            (filter (λ (d : Cell E). test (Some d.entry)) cells) else map (λ (d : Cell E). d.column)
            (filter (λ (d : Cell E). test (Some d.entry)) cells)) at
            ∙ by_test (test (Some c.entry))
      ]
    where
      by_test : (b : Bool) → (if b then c.column ∷ map (λ (d : Cell E). d.column)
          (filter (λ (d : Cell E). test (Some d.entry)) cells) else map (λ (d : Cell E). d.column)
          (filter (λ (d : Cell E). test (Some d.entry)) cells))
          ≡ map (λ (d : Cell E). d.column) (if b then c ∷ filter (λ (d : Cell E). test (Some d.entry)) cells
          else filter (λ (d : Cell E). test (Some d.entry)) cells)
      by_test true = refl
      by_test false = refl

-- what has these cells has them in each column
pub are_entry_in : {E : Type 0} (entries : ℕ → Option E) (cells : List (Cell E)) → AreCellsOf entries cells → (t : ℕ)
    → entries t ≡ entry_in cells t
are_entry_in {E} entries cells so t = by_both (entries t) (entry_in cells t) refl refl
  where
    by_both : (a b : Option E) → entries t ≡ a → entry_in cells t ≡ b → entries t ≡ entry_in cells t
    by_both None None x y = x ∙ sym y
    by_both (Some e) b x y = x
        ∙ sym (contains-entry_in cells (record { column = t; entry = e }) so.rising (so.whole t e x))
    by_both None (Some e) x y = so.sound (record { column = t; entry = e }) (entry_in-contains cells t e y) ∙ sym y

pub columns_pass_of : {E : Type 0} (test : Option E → Bool) → test None ≡ false → (entries : ℕ → Option E) (width : ℕ)
    (cells : List (Cell E)) → AreCellsOf entries cells → All (λ c. c.column < width) cells
    → filter (λ t. test (entries t)) (range_with_len 0 width)
    ≡ map (λ c. c.column) (filter (λ c. test (Some c.entry)) cells)
columns_pass_of test none entries width cells so within =
    filter_from (λ t. test (entries t)) (λ t. test (entry_in cells t)) width 0
    (λ t le. ap test (are_entry_in entries cells so t))
    ∙ columns_pass test none width 0 cells so.rising (λ k d lt. omega arith)
    (λ k d lt. let one = within k d lt in omega (arith, one))

-- one column is changed, and what is put there stands between lower and higher ones
module _ {E : Type 0} where
  pub still_same : (column : ℕ) (cells : List (Cell E)) → AreCellsStill column cells cells
  still_same column cells = record { rising = λ h. h; within = λ width lt h. h }

  pub still_both : (column : ℕ) (old mid new : List (Cell E)) → AreCellsStill column old mid
      → AreCellsStill column mid new → AreCellsStill column old new
  still_both column old mid new a b = record {
    rising = λ h. b.rising (a.rising h);
    within = λ width lt h. b.within width lt (a.within width lt h);
  }

  pub still_without : (low : List (Cell E)) (x : Cell E) (high : List (Cell E))
      → AreCellsStill x.column (low ++ x ∷ high) (low ++ high)
  still_without low x high = record {
    rising = pairs_without (λ (a b : Cell E). a.column < b.column) low x high;
    within = λ width lt all. let P : Cell E → Type 0 = λ c. c.column < width in
        All-append P low high (All-left P low (x ∷ high) all)
        (All-tail P x high (All-right P low (x ∷ high) all));
  }

  pub still_insert : (low : List (Cell E)) (x : Cell E) (high : List (Cell E)) → All (λ c. c.column < x.column) low
      → All (λ c. x.column < c.column) high → AreCellsStill x.column (low ++ high) (low ++ x ∷ high)
  still_insert low x high below above = record {
    rising = λ pairs. pairs_insert (λ (a b : Cell E). a.column < b.column) low x high pairs below above;
    within = λ width lt all. let P : Cell E → Type 0 = λ c. c.column < width in
        All-append P low (x ∷ high) (All-left P low high all)
        (All-cons P x high lt (All-right P low high all));
  }

  -- The place of a column is known, and no cell has it.
  pub record IsCleared (column place : ℕ) (old mid : List (Cell E)) : Type 0 where
    pub low : List (Cell E)
    pub high : List (Cell E)
    pub is : mid ≡ low ++ high
    pub long : length low ≡ place
    pub below : All (λ c. c.column < column) low
    pub above : All (λ c. column < c.column) high
    pub still : AreCellsStill column old mid
    pub entries : (t : ℕ) → entry_in mid t ≡ (if nat_eq t column then None else entry_in old t)

  -- a column's place in rising cells
  module _ (cells : List (Cell E)) (column place : ℕ) (rising : AreRising cells) (small : place ≤ length cells)
      (parted : IsPartitionPoint (λ c. c.column < column) (λ c. column ≤ c.column) cells place) where
    low_below : All (λ c. c.column < column) (take place cells)
    low_below k d lt = let in_place : k < place = omega (arith, lt, length-take place cells) in
        subst (λ (c : Cell E). c.column < column) (sym (get_or-take place cells k d in_place))
        (parted.0 k d (omega arith) in_place)

    high_rising : AreRising (drop place cells)
    high_rising = pairs_right (λ (a b : Cell E). a.column < b.column) (take place cells) (drop place cells)
        (subst AreRising (sym (take-append-drop place cells)) rising)

    -- the cell of the column is taken away
    pub cleared_removed : (x : Cell E) → slice_get cells place ≡ Some x → x.column ≡ column
        → IsCleared column place cells (remove cells place)
    cleared_removed x at same = record {
      low = take place cells;
      high = drop (suc place) cells;
      is = refl;
      long = omega (arith, length-take place cells, small);
      below = low_below;
      above = subst (λ k. All (λ (c : Cell E). k < c.column) (drop (suc place) cells)) same above;
      still = subst (λ k. AreCellsStill k cells (remove cells place)) same
          (subst (λ cs. AreCellsStill x.column cs (remove cells place)) (sym whole)
          (still_without (take place cells) x (drop (suc place) cells)));
      entries = λ t. subst (λ k. entry_in (remove cells place) t ≡ (if nat_eq t k then None else entry_in cells t)) same
          (subst (λ cs. entry_in (remove cells place) t ≡ (if nat_eq t x.column then None else entry_in cs t))
          (sym whole)
          (entry_in-without (take place cells) x (drop (suc place) cells)
          (subst (λ k. All (λ (c : Cell E). c.column < k) (take place cells)) (sym same) low_below) above t));
    }
      where
        rest : drop place cells ≡ x ∷ drop (suc place) cells
        rest = drop-cons cells place x (slice_get_within cells place x at)
            ∙ ap (λ (c : Cell E). c ∷ drop (suc place) cells) (get_or_from_slice_get cells place x x at)

        whole : cells ≡ take place cells ++ x ∷ drop (suc place) cells
        whole = sym (take-append-drop place cells) ∙ ap (λ cs. take place cells ++ cs) rest

        above : All (λ c. x.column < c.column) (drop (suc place) cells)
        above = pairs_head (λ (a b : Cell E). a.column < b.column) x (drop (suc place) cells)
            (subst AreRising rest high_rising)

    -- there is none
    pub cleared_same : ((x : Cell E) → slice_get cells place ≡ Some x → x.column ≡ column → ⊥)
        → IsCleared column place cells cells
    cleared_same none = record {
      low = take place cells;
      high = drop place cells;
      is = sym (take-append-drop place cells);
      long = omega (arith, length-take place cells, small);
      below = low_below;
      above = above;
      still = still_same column cells;
      entries = λ t. elim (cases_Bool (nat_eq t column)) [
        | inl here ↦ subst (λ k. entry_in cells k ≡ None) (sym (eqb-true t column here)) no_entry
            ∙ sym (cond-true (nat_eq t column) None (entry_in cells t) here)
        | inr other ↦ sym (cond-false (nat_eq t column) None (entry_in cells t) other)
      ];
    }
      where
        plus_none : (n : ℕ) → n + 0 ≡ n
        plus_none n = omega arith

        by_cases : (x : Cell E) → (x.column ≡ column → ⊥) → column ≤ x.column → column < x.column
        by_cases x other le = elim (cases_lt column x.column) [
          | inl lt ↦ lt
          | inr ge ↦ absurd (other (omega (arith, le, ge)))
        ]

        first : (d : Cell E) → 0 < length (drop place cells) → column < (get_or (drop place cells) 0 d).column
        first d lt =
            let long : place < length cells = omega (arith, lt, length-drop place cells) in
            let x = get_or cells place d in
            let le = parted.1 place d (omega arith) long in
            let here : get_or (drop place cells) 0 d ≡ x
            = get_or-drop place cells 0 d ∙ ap (λ k. get_or cells k d) (plus_none place) in
            subst (λ (c : Cell E). column < c.column) (sym here)
            (by_cases x (none x (slice_get-get_or cells place d long)) le)

        above : All (λ c. column < c.column) (drop place cells)
        above zero d lt = first d lt
        above (suc k) d lt =
            let low = first d (omega (arith, lt)) in
            let later = high_rising 0 (suc k) d (omega arith) lt in
            omega (arith, low, later)

        no_entry : entry_in cells column ≡ None
        no_entry = ap (λ cs. entry_in cs column) (sym (take-append-drop place cells))
            ∙ entry_in-behind (take place cells) (drop place cells) column low_below
            ∙ entry_in-before (drop place cells) column above

  inserted : (low high : List (Cell E)) (x : Cell E) (place : ℕ) (mid : List (Cell E)) → mid ≡ low ++ high
      → length low ≡ place → insert mid place x ≡ low ++ x ∷ high
  inserted low high x place mid is long = ap (λ cs. insert cs place x) is
      ∙ ap (λ n. insert (low ++ high) n x) (sym long)
      ∙ ap₂ (λ (a b : List (Cell E)). a ++ x ∷ b) (take-append_seam low high) (drop-append_seam low high)

  -- and then one is put there
  pub put_still : (old mid : List (Cell E)) (x : Cell E) (place : ℕ) → IsCleared x.column place old mid
      → AreCellsStill x.column old (insert mid place x)
  put_still old mid x place so = still_both x.column old mid (insert mid place x) so.still
      (subst (AreCellsStill x.column mid) (sym (inserted so.low so.high x place mid so.is so.long))
      (subst (λ cs. AreCellsStill x.column cs (so.low ++ x ∷ so.high)) (sym so.is)
      (still_insert so.low x so.high so.below so.above)))

  pub put_entries : (old mid : List (Cell E)) (x : Cell E) (place : ℕ) → IsCleared x.column place old mid → (t : ℕ)
      → entry_in (insert mid place x) t ≡ (if nat_eq t x.column then Some x.entry else entry_in old t)
  put_entries old mid x place so t = ap (λ cs. entry_in cs t) (inserted so.low so.high x place mid so.is so.long)
      ∙ entry_in-insert so.low x so.high so.below t
      ∙ elim (cases_Bool (nat_eq t x.column)) [
        | inl here ↦ cond-true (nat_eq t x.column) (Some x.entry) (entry_in (so.low ++ so.high) t) here
            ∙ sym (cond-true (nat_eq t x.column) (Some x.entry) (entry_in old t) here)
        | inr other ↦ ap (λ (o : Option E). if nat_eq t x.column then Some x.entry else o)
            (ap (λ cs. entry_in cs t) (sym so.is) ∙ so.entries t
            ∙ cond-false (nat_eq t x.column) None (entry_in old t) other)
      ]

  -- what stands at a column's place, or doesn't
  module _ (cells : List (Cell E)) (column place : ℕ) (rising : AreRising cells) (small : place ≤ length cells)
      (parted : IsPartitionPoint (λ c. c.column < column) (λ c. column ≤ c.column) cells place) where
    pub entry_in-at : (x : Cell E) → slice_get cells place ≡ Some x → x.column ≡ column
        → entry_in cells column ≡ Some x.entry
    entry_in-at x at same = subst (λ k. entry_in cells k ≡ Some x.entry) same (contains-entry_in cells x rising
        (subst (Contains cells) (get_or_from_slice_get cells place x x at)
        (Contains-get_or cells place x (slice_get_within cells place x at))))

    pub entry_in-not_at : ((x : Cell E) → slice_get cells place ≡ Some x → x.column ≡ column → ⊥)
        → entry_in cells column ≡ None
    entry_in-not_at none = let so = cleared_same cells column place rising small parted none in
        so.entries column ∙ cond-true (nat_eq column column) None (entry_in cells column) (eq-eqb column column refl)
