-- What the row of a state has of the one before, where the moves of both begin alike.
use Rattle.std.proofs.Common.{◌≡◌, ◌≢◌, ◌⊎◌, inl, inr, ℕ, zero, suc, ◌-◌, ◌<◌, ◌≤◌, List, [], ◌∷◌, refl, sym, ◌∙◌, ap}
use Rattle.std.proofs.Common.{arith, length, map, subst, take}
use Rattle.std.specs.Prelude.{AllPairs, Contains, slice_index_or}
use Rattle.std.proofs.lemmas.Bool.{cases_lt}
use Rattle.std.proofs.lemmas.List.{get_or-map, get_or-take, get_or_default, length-map, length-take-le, take-map}
use Rattle.std.proofs.lemmas.Option.{get_or_from_slice_get}
use Rattle.ly_base.proofs.ListLemmas.{some_at}
use Rattle.ly_join.specs.Grammar.{Grammar, Symbol, symbol_of, terminal}
use Rattle.ly_join.specs.declared.symbol.Symbol.TheVariants.{Terminal}
use Rattle.ly_lr0.specs.Automaton.{IsLess, Transition}
use Rattle.ly_lr0.specs.declared.item.Item.{Item}
use Rattle.ly_lr0.specs.declared.item.Move.{Move}
use Rattle.ly_lr0.specs.declared.transition.Transition as code
use Rattle.ly_lr0.specs.Private.Built.{AreFound, AreInOrder, HasTransition, IsLed, IsWholeRow, Link, LinkIsLess}
use Rattle.ly_lr0.specs.Private.Built.{link_at, transitions_of}
use Rattle.ly_lr0.specs.Private.Closing.{AreMoves, MoveIsLess}
use Rattle.ly_lr0.specs.Private.Items.{IsMoved}
use Rattle.ly_lr0.specs.Private.Kernels.{kernel_at}
use Rattle.ly_lr0.specs.Private.Places.{IsPlace}
use Rattle.ly_lr0.specs.Transitions.{transition_of}
use Rattle.ly_lr0.specs.declared.found.Found.{Found}
use Rattle.ly_lr0.specs.Private.Found.{IsFound, links_of, rows_of}
use Rattle.ly_lr0.specs.Private.Shared.{AreMovesBefore, IsRowBefore, IsLastRowBefore, IsShared, move_at, no_move}
use Rattle.ly_lr0.proofs.GroupLemmas.{IsBoundary}
use Rattle.ly_lr0.proofs.OrderLemmas.{less_off, less_trans}
use Rattle.ly_lr0.proofs.SuccessorLemmas.{HasEntered, entered_start, found_part, kept_symbol}

-- the symbol of the move at a place
abbrev over : List Move → ℕ → Symbol
over moves k = symbol_of (move_at moves k).symbol

module _ (moves : List Move) (rising : AllPairs MoveIsLess moves) where
  not_more : (j k : ℕ) → j ≤ k → k < length moves → (over moves j ≡ over moves k) ⊎ IsLess (over moves j) (over moves k)
  not_more j k l m = elim (cases_lt j k) [
    | inl less ↦ elim (rising j k no_move less m) [
      | inl low ↦ inr low
      | inr same ↦ inl (ap symbol_of same.0)
    ]
    | inr past ↦ inl (ap (over moves) (omega (arith, l, past)))
  ]

  module _ (at : ℕ) (long : at < length moves)
      (begins : (j : ℕ) → suc j ≡ at → (move_at moves j).symbol ≢ (move_at moves at).symbol) where
    below : (j : ℕ) → j < at → IsLess (over moves j) (over moves at)
    below j l =
        let p = at - 1 in
        let last : IsLess (over moves p) (over moves at) = elim (rising p at no_move (omega (arith, l)) long) [
          | inl low ↦ low
          | inr same ↦ absurd (begins p (omega (arith, l)) same.0)
        ] in
        elim (not_more j p (omega (arith, l)) (omega (arith, long))) [
          | inl same ↦ subst (λ X. IsLess X (over moves at)) (sym same) last
          | inr low ↦ less_trans (over moves j) (over moves p) (over moves at) low last
        ]

    boundary : IsBoundary moves at
    boundary j k d l m n =
        let low : IsLess (over moves j) (over moves k) = elim (not_more at k m n) [
          | inl same ↦ subst (IsLess (over moves j)) same (below j l)
          | inr less ↦ less_trans (over moves j) (over moves at) (over moves k) (below j l) less
        ] in
        subst (λ x. IsLess (symbol_of x.symbol) (symbol_of (slice_index_or moves k d).symbol))
        (get_or_default moves j no_move d (omega (arith, l, m, n)))
        (subst (λ x. IsLess (over moves j) (symbol_of x.symbol)) (get_or_default moves k no_move d n) low)

    -- a move over a lower symbol stands before the place
    spot : (m : Move) → Contains moves m → IsLess (symbol_of m.symbol) (over moves at)
        → (j : ℕ) × (j < at) × (move_at moves j ≡ m)
    spot m c less =
        let is : move_at moves c.0 ≡ m = get_or_default moves c.0 no_move m c.1 ∙ c.2 in
        elim (cases_lt c.0 at) [
          | inl low ↦ (c.0, low, is)
          | inr past ↦ absurd (elim (not_more at c.0 past c.1) [
            | inl same ↦ less_off (over moves at) (subst (λ X. IsLess X (over moves at))
                (ap (λ n. symbol_of n.symbol) (sym is) ∙ sym same) less)
            | inr high ↦ less_off (over moves at) (less_trans (over moves at) (over moves c.0) (over moves at) high
                (subst (λ n. IsLess (symbol_of n.symbol) (over moves at)) (sym is) less))
          ])
        ]

-- over symbols before that of the place, a kernel moves to what another one does whose moves begin alike
module _ (G : Grammar) (one other : List Item) (moves others : List Move) (at : ℕ) (are : AreMoves G one moves)
    (are_others : AreMoves G other others) (long : at < length moves) (others_long : at < length others)
    (same : (j : ℕ) → j ≤ at → move_at moves j ≡ move_at others j)
    (begins : (j : ℕ) → suc j ≡ at → (move_at moves j).symbol ≢ (move_at moves at).symbol) (X : Symbol) (i : Item)
    (not_end : X ≢ terminal 0) (less : IsLess X (over moves at)) (moved : IsMoved G one X i) where
  place : (m : Move) × (symbol_of m.symbol ≡ X) × (m.item ≡ i) × (j : ℕ) × (j < at) × (move_at moves j ≡ m)
  place =
      let x = kept_symbol X in
      let m : Move = record { symbol = x.0; item = i } in
      let there = (are.each m).1 ((λ e. not_end (sym x.1 ∙ e)), subst (λ Y. IsMoved G one Y i) (sym x.1) moved) in
      let s = spot moves are.rising at long begins m there (subst (λ Y. IsLess Y (over moves at)) (sym x.1) less) in
      (m, x.1, refl, s.0, s.1, s.2)

  carried : IsMoved G other X i
  carried =
      let there : Contains others place.0 = (
        place.3,
        omega (arith, place.4, others_long),
        get_or_default others place.3 place.0 no_move (omega (arith, place.4, others_long))
            ∙ sym (same place.3 (let l = place.4 in omega arith)) ∙ place.5,
      ) in
      subst (IsMoved G other X) place.2
      (subst (λ Y. IsMoved G other Y place.0.item) place.1 ((are_others.each place.0).0 there).1)

module _ (G : Grammar) (kernels : List (List Item)) (links : List Link) (rows : List (List Transition))
    (part : List Transition) (s : ℕ) (moves before : List Move) (at : ℕ) (last : suc s ≡ length rows)
    (next : length rows < length kernels) (are : AreMoves G (kernel_at kernels (length rows)) moves)
    (are_before : AreMoves G (kernel_at kernels s) before) (found : AreFound G kernels links rows)
    (whole : IsWholeRow G (kernel_at kernels s) (slice_index_or rows s [])) (shared : IsShared moves before at)
    (part_is : IsRowBefore (slice_index_or rows s []) (over moves at) part) where
  begins_before : (j : ℕ) → suc j ≡ at → (move_at before j).symbol ≢ (move_at before at).symbol
  begins_before j e f = shared.begins j e (ap (λ m. m.symbol) (shared.same j (omega (arith, e))) ∙ f
      ∙ ap (λ m. m.symbol) (sym (shared.same at (omega arith))))

  same_at : over moves at ≡ over before at
  same_at = ap (λ m. symbol_of m.symbol) (shared.same at (omega arith))

  here : (t : Transition) → Contains part t → HasTransition rows s t
  here t c = (omega (arith, last), ((part_is.each t).0 c).0)

  lower : (t : Transition) → Contains part t → IsLess t.symbol (over moves at)
  lower t c = ((part_is.each t).0 c).1

  to : (X : Symbol) (i : Item) → X ≢ terminal 0 → IsLess X (over moves at) → IsMoved G (kernel_at kernels s) X i
      → IsMoved G (kernel_at kernels (length rows)) X i
  to X i not_end less moved = carried G (kernel_at kernels s) (kernel_at kernels (length rows)) before moves at
      are_before are shared.before_long shared.long (λ j l. sym (shared.same j l)) begins_before X i not_end
      (subst (IsLess X) same_at less) moved

  from : (X : Symbol) (i : Item) → X ≢ terminal 0 → IsLess X (over moves at)
      → IsMoved G (kernel_at kernels (length rows)) X i → IsMoved G (kernel_at kernels s) X i
  from X i not_end less moved = carried G (kernel_at kernels (length rows)) (kernel_at kernels s) moves before at are
      are_before shared.long shared.before_long shared.same shared.begins X i not_end less moved

  part_led : (t : Transition) → Contains part t → IsLed G kernels (length rows) t
  part_led t c =
      let led = found.led s t (here t c) in
      record {
        within = led.within;
        symbol = led.symbol;
        moved = λ i. (
          λ h. to t.symbol i led.symbol (lower t c) ((led.moved i).0 h),
          λ h. (led.moved i).1 (from t.symbol i led.symbol (lower t c) h),
        );
        some = led.some;
      }

  part_first : (t : Transition) (k : ℕ) → Contains part t → t.target ≡ suc k
      → LinkIsLess (link_at links k) (record { from = length rows; symbol = t.symbol })
  part_first t k c e = inl (elim (found.first s t k (here t c) e) [
    | inl same ↦ omega (arith, last, ap (λ (l : Link). l.from) same)
    | inr (inl less) ↦ omega (arith, last, less)
    | inr (inr later) ↦ omega (arith, last, later.0)
  ])

  part_each : (t : Transition) → Contains part t
      → (j : ℕ) × (j < at) × ((d : Move) → t.symbol ≡ symbol_of (slice_index_or moves j d).symbol)
  part_each t c =
      let led = found.led s t (here t c) in
      let i = led.some.0 in
      let p = place G (kernel_at kernels (length rows)) (kernel_at kernels s) moves before at are are_before shared.long
      shared.before_long shared.same shared.begins t.symbol i led.symbol (lower t c)
      (to t.symbol i led.symbol (lower t c) ((led.moved i).0 led.some.1)) in
      let long = shared.long in (
        p.3,
        p.4,
        λ d. sym p.1 ∙ ap (λ n. symbol_of n.symbol)
            (sym p.5 ∙ get_or_default moves p.3 no_move d (omega (arith, p.4, long))),
      )

  done_by : (k : ℕ) (d : Move) → k < at → (t : Transition) → Contains (slice_index_or rows s []) t
      → t.symbol ≡ over moves k
      → (t : Transition) × Contains part t × (t.symbol ≡ symbol_of (slice_index_or moves k d).symbol)
  done_by k d l t c e = let long = shared.long in (
    t,
    (part_is.each t).1 (
      c,
      subst (λ X. IsLess X (over moves at)) (sym e)
          (below moves are.rising at shared.long shared.begins k l),
    ),
    e ∙ ap (λ n. symbol_of n.symbol) (get_or_default moves k no_move d (omega (arith, l, long))),
  )

  part_done : (k : ℕ) (d : Move) → k < at → (t : Transition) × Contains part t
      × (t.symbol ≡ symbol_of (slice_index_or moves k d).symbol)
  part_done k d l =
      let long = shared.long in
      let within : k < length moves = omega (arith, l, long) in
      let m = move_at moves k in
      let asked = (are.each m).0 (k, within, get_or_default moves k m no_move within) in
      let less = below moves are.rising at shared.long shared.begins k l in
      let moved = from (symbol_of m.symbol) m.item asked.0 less asked.1 in
      let t = whole (symbol_of m.symbol) asked.0 m.item.rule moved.0 moved.2 moved.3 in
      done_by k d l t.0 t.1 t.2

  -- the part of the last row is the beginning of the next one
  pub entered_shared : HasEntered G kernels links rows part (length rows) moves at
  entered_shared = record {
    state = refl;
    next = next;
    are = are;
    found = found_part G kernels links rows part next found part_is.sorted part_led part_first;
    boundary = boundary moves are.rising at shared.long shared.begins;
    each = part_each;
    done = part_done;
  }

no_transition : code.Transition
no_transition = record { symbol = Terminal (record { 0 = 0 }); target = record { 0 = 0 } }

-- the transitions before the place of a symbol are those over the symbols before it
pub row_before_taken : (ts : List code.Transition) (X : Symbol) (q : ℕ) → AreInOrder (map transition_of ts)
    → IsPlace ts X q → IsRowBefore (map transition_of ts) X (map transition_of (take q ts))
row_before_taken ts X q ordered is = record {
  sorted = subst AreInOrder (take-map transition_of q ts) taken;
  each = λ t. (
    λ c. to_part t (subst (λ r. Contains r t) (sym (take-map transition_of q ts)) c),
    λ h. subst (λ r. Contains r t) (take-map transition_of q ts) (from_part t h.0 h.1),
  );
}
  where
    long : q ≤ length (map transition_of ts)
    long = let w = is.within in omega (arith, w, length-map ts transition_of)

    taken : AreInOrder (take q (map transition_of ts))
    taken i j d l m =
        let r = map transition_of ts in
        let h : j < q = omega (arith, m, length-take-le q r long) in
        subst (λ x. IsLess x.symbol (slice_index_or (take q r) j d).symbol)
        (sym (get_or-take q r i d (omega (arith, l, h))))
        (subst (λ x. IsLess (slice_index_or r i d).symbol x.symbol) (sym (get_or-take q r j d h))
        (ordered i j d l (omega (arith, h, long))))

    shown : (t : Transition) (k : ℕ) → k < length (map transition_of ts)
        → slice_index_or (map transition_of ts) k t ≡ transition_of (slice_index_or ts k no_transition)
    shown t k l = get_or-map transition_of ts k no_transition t (omega (arith, l, length-map ts transition_of))

    to_part : (t : Transition) → Contains (take q (map transition_of ts)) t
        → Contains (map transition_of ts) t × IsLess t.symbol X
    to_part t c =
        let r = map transition_of ts in
        let h : c.0 < q = omega (arith, c.1, length-take-le q r long) in
        let l : c.0 < length r = omega (arith, h, long) in
        let at : slice_index_or r c.0 t ≡ t = sym (get_or-take q r c.0 t h) ∙ c.2 in (
          (c.0, l, at),
          subst (λ x. IsLess x.symbol X) (sym (shown t c.0 l) ∙ at) (is.before c.0 no_transition h),
        )

    from_part : (t : Transition) → Contains (map transition_of ts) t → IsLess t.symbol X
        → Contains (take q (map transition_of ts)) t
    from_part t c less = let r = map transition_of ts in elim (cases_lt c.0 q) [
      | inl low ↦ (c.0, omega (arith, low, length-take-le q r long), get_or-take q r c.0 t low ∙ c.2)
      | inr past ↦ absurd (is.behind c.0 no_transition past (omega (arith, c.1, length-map ts transition_of))
          (subst (λ x. IsLess x.symbol X) (sym (sym (shown t c.0 c.1) ∙ c.2)) less))
    ]

-- rows are in order, and what lists have past their ends
sorted_any : (rows : List (List Transition))
    → ((s : ℕ) → s < length rows → AreInOrder (slice_index_or rows s [])) → (s : ℕ)
    → AreInOrder (slice_index_or rows s [])
sorted_any [] sorted s = λ i j d l m. absurd (omega (arith, m))
sorted_any (r ∷ rows) sorted zero = sorted 0 (omega arith)
sorted_any (r ∷ rows) sorted (suc s) = sorted_any rows (λ k l. sorted (suc k) (omega (arith, l))) s

-- and those of the last row
module _ (f : Found) (is : IsFound f) (ts : List code.Transition) (same : ts ≡ f.last.items) where
  pub last_ordered : AreInOrder (map transition_of ts)
  last_ordered = subst AreInOrder (sym (ap (map transition_of) same ∙ is.last))
      (sorted_any (rows_of f) is.found.sorted (length f.rows.items - 1))

  pub last_row_before : (X : Symbol) (q : ℕ) → IsPlace ts X q → IsLastRowBefore f X (map transition_of (take q ts))
  last_row_before X q at s e =
      let here : length f.rows.items - 1 ≡ s = omega (arith, e) in
      subst (λ k. IsRowBefore (slice_index_or (rows_of f) k []) X (map transition_of (take q ts))) here
      (subst (λ r. IsRowBefore r X (map transition_of (take q ts))) (ap (map transition_of) same ∙ is.last)
      (row_before_taken ts X q last_ordered at))

-- a row that begins as the last one does, or with nothing
pub begun_entered : (f : Found) (moves before : List Move) (at : ℕ) (begun : List code.Transition) → IsFound f
    → length f.rows.items < length f.kernels
    → AreMoves f.reduced.now.grammar (kernel_at f.kernels (length f.rows.items)) moves → AreMovesBefore f before
    → (0 < at → IsShared moves before at) → (at ≡ 0 → begun ≡ [])
    → (0 < at → IsLastRowBefore f (over moves at) (map transition_of begun)) → (from : ℕ) → from ≡ length f.rows.items
    → HasEntered f.reduced.now.grammar f.kernels (links_of f) (rows_of f) (map transition_of begun) from moves at
begun_entered f moves before at begun is next are_moves earlier shared none part_is from count =
    let G = f.reduced.now.grammar in
    let rows : length f.rows.items ≡ length (rows_of f) = sym (length-map f.rows.items transitions_of) in
    let less : length (rows_of f) < length f.kernels = omega (arith, next, rows) in
    let same : from ≡ length (rows_of f) = count ∙ rows in
    let are : AreMoves G (kernel_at f.kernels (length (rows_of f))) moves
    = subst (λ n. AreMoves G (kernel_at f.kernels n) moves) rows are_moves in
    elim (cases_lt 0 at) [
      | inl some ↦ elim (cases_lt 0 (length f.rows.items)) [
        | inl there ↦
            let s = length f.rows.items - 1 in
            let last : suc s ≡ length f.rows.items = omega (arith, there) in
            let here : s < length f.rows.items = omega (arith, there) in
            let row = some_at f.rows.items s here in
            let whole : IsWholeRow G (kernel_at f.kernels s) (slice_index_or (rows_of f) s [])
            = subst (IsWholeRow G (kernel_at f.kernels s)) (sym (get_or-map transitions_of f.rows.items s row.0 [] here
            ∙ ap transitions_of (get_or_from_slice_get f.rows.items s row.0 row.0 row.1)))
            (is.rows s row.0 row.1).whole in
            subst (λ n. HasEntered G f.kernels (links_of f) (rows_of f) (map transition_of begun) n moves at) (sym same)
            (entered_shared G f.kernels (links_of f) (rows_of f) (map transition_of begun) s moves before at
            (last ∙ rows) less are (earlier.last s last) is.found whole (shared some) (part_is some s last))
        | inr empty ↦
            let long = (shared some).before_long in
            absurd (omega (arith, long, ap length (earlier.none (omega (arith, empty)))))
      ]
      | inr first ↦
          let start : at ≡ 0 = omega (arith, first) in
          subst (λ n. HasEntered G f.kernels (links_of f) (rows_of f) (map transition_of begun) from moves n)
          (sym start) (subst (λ ts. HasEntered G f.kernels (links_of f) (rows_of f) (map transition_of ts) from moves 0)
          (sym (none start))
          (entered_start G f.kernels (links_of f) (rows_of f) from moves same (omega (arith, count, next))
          (subst (λ n. AreMoves G (kernel_at f.kernels n) moves) (sym same) are) is.found))
    ]
