-- The moves over one symbol are the kernel of the next state.
use Rattle.std.proofs.Common.{◌≡◌, ◌≢◌, inl, inr, ℕ, ◌+◌, ◌-◌, ◌<◌, ◌≤◌, List, [], ◌∷◌, ◌++◌}
use Rattle.std.proofs.Common.{refl, sym, ◌∙◌, ap, subst, arith, drop, length, map}
use Rattle.std.specs.Prelude.{◌↔◌, Contains, slice_index_or, slice_range}
use Rattle.std.specs.declared.cmp.Ordering.TheVariants.{Less}
use Rattle.std.proofs.lemmas.Bool.{cases_lt}
use Rattle.std.proofs.lemmas.List.{get_or-drop, get_or-map, get_or-take, get_or_default, length-drop, length-map}
use Rattle.std.proofs.lemmas.List.{length-take, length-take-le}
use Rattle.std.proofs.lemmas.List.Elements.{Contains-get_or, Contains-push, Contains-push_cases, Contains-append_left}
use Rattle.ly_join.specs.Grammar.{Grammar, Symbol, symbol_of, terminal}
use Rattle.ly_join.specs.declared.symbol.Symbol as code
use Rattle.ly_join.specs.declared.symbol.Symbol.TheVariants.{Terminal, Nonterminal}
use Rattle.ly_lr0.specs.Automaton.{IsLess, Transition}
use Rattle.ly_lr0.specs.declared.item.Item.{Item}
use Rattle.ly_lr0.specs.declared.item.Move.{Move}
use Rattle.ly_lr0.specs.Private.Closing.{AreKept, AreMoves, IsGroupEnd}
use Rattle.ly_lr0.specs.Private.Items.{AreRising, IsMoved, item_cmp}
use Rattle.ly_lr0.proofs.OrderLemmas.{less_off, less_trans}

-- symbols are kept as one
pub symbol_one : (x y : code.Symbol) → symbol_of x ≡ symbol_of y → x ≡ y
symbol_one (Terminal t) (Terminal u) e = let n : t.0 ≡ u.0 = cc in ap (λ m. Terminal (record { 0 = m })) n
symbol_one (Terminal t) (Nonterminal B) e = absurd (cc)
symbol_one (Nonterminal A) (Terminal u) e = absurd (cc)
symbol_one (Nonterminal A) (Nonterminal B) e = let n : A.0 ≡ B.0 = cc in ap (λ m. Nonterminal (record { 0 = m })) n

-- the symbols before a place are less than those behind it
abbrev pub IsBoundary : List Move → ℕ → Type 0
IsBoundary moves at = (j k : ℕ) (d : Move) → j < at → at ≤ k → k < length moves
    → IsLess (symbol_of (slice_index_or moves j d).symbol) (symbol_of (slice_index_or moves k d).symbol)

-- what a move stands at
pub record IsSpot (moves : List Move) (a b : ℕ) (m : Move) : Type 0 where
  pub k : ℕ
  pub low : a ≤ k
  pub high : k < b
  pub is : (d : Move) → slice_index_or moves k d ≡ m

spot_of : (moves : List Move) (a b : ℕ) (m : Move) → b ≤ length moves → Contains (slice_range moves a b) m
    → IsSpot moves a b m
spot_of moves a b m within c =
    let less : c.0 < b - a = omega (arith, c.1, length-take (b - a) (drop a moves), length-drop a moves) in
    record {
      k = a + c.0;
      low = omega arith;
      high = omega (arith, less);
      is = λ d. get_or_default moves (a + c.0) d m (omega (arith, less, within)) ∙ sym (get_or-drop a moves c.0 m)
          ∙ sym (get_or-take (b - a) (drop a moves) c.0 m less) ∙ c.2;
    }

of_spot : (moves : List Move) (a b : ℕ) (m : Move) → b ≤ length moves → IsSpot moves a b m
    → Contains (slice_range moves a b) m
of_spot moves a b m within s =
    let j = s.k - a in
    let low = s.low in
    let high = s.high in
    let less : j < b - a = omega arith in
    let at : a + j ≡ s.k = omega arith in (
      j,
      omega (arith, less, within, length-take-le (b - a) (drop a moves) (omega (arith, length-drop a moves, within))),
      get_or-take (b - a) (drop a moves) j m less ∙ get_or-drop a moves j m ∙ ap (λ n. slice_index_or moves n m) at
          ∙ s.is m,
    )

-- the item of a move
of_map : (ms : List Move) (i : Item) → Contains (map (λ m. m.item) ms) i → (m : Move) × Contains ms m × (m.item ≡ i)
of_map ms i c =
    let d : Move = record { symbol = Terminal (record { 0 = 0 }); item = i } in
    let less : c.0 < length ms = omega (arith, c.1, length-map ms (λ (m : Move). m.item)) in (
      slice_index_or ms c.0 d,
      Contains-get_or ms c.0 d less,
      sym (get_or-map (λ (m : Move). m.item) ms c.0 d i less)
          ∙ c.2,
    )

to_map : (ms : List Move) (m : Move) → Contains ms m → Contains (map (λ m. m.item) ms) m.item
to_map ms m c = (
  c.0,
  omega (arith, c.1, length-map ms (λ (m : Move). m.item)),
  get_or-map (λ (m : Move). m.item) ms c.0 m m.item c.1 ∙ ap (λ (n : Move). n.item) c.2,
)

module _ (G : Grammar) (from : List Item) (moves : List Move) (at end : ℕ) (are : AreMoves G from moves)
    (group : IsGroupEnd moves at end) (boundary : IsBoundary moves at) (first : Move)
    (is_first : (d : Move) → slice_index_or moves at d ≡ first) where
  abbrev X : Symbol
  X = symbol_of first.symbol

  abbrev kernel : List Item
  kernel = map (λ m. m.item) (slice_range moves at end)

  first_there : Contains moves first
  first_there = (at, let b = group.behind in let w = group.within in omega (arith, b, w), is_first first)

  pub other : X ≢ terminal 0
  other = ((are.each first).0 first_there).0

  same_symbol : (k : ℕ) (d : Move) → at ≤ k → k < end → (slice_index_or moves k d).symbol ≡ first.symbol
  same_symbol k d l m = group.same k d l m ∙ ap (λ n. n.symbol) (is_first d)

  -- behind the end symbols are greater
  beyond : (k : ℕ) (d : Move) → end ≤ k → k < length moves → IsLess X (symbol_of (slice_index_or moves k d).symbol)
  beyond k d l m = elim (cases_lt end k) [
    | inl less ↦ elim (are.rising end k d less m) [
      | inl low ↦ less_trans X (symbol_of (slice_index_or moves end d).symbol) _ at_end low
      | inr same ↦ subst (λ x. IsLess X (symbol_of x)) same.0 at_end
    ]
    | inr past ↦ let e : end ≡ k = omega (arith, l, past) in
        subst (λ n. IsLess X (symbol_of (slice_index_or moves n d).symbol)) e at_end
  ]
    where
      at_end : IsLess X (symbol_of (slice_index_or moves end d).symbol)
      at_end =
          let less : end < length moves = omega (arith, l, m) in
          elim (are.rising at end d group.behind less) [
            | inl low ↦ subst (λ n. IsLess (symbol_of n.symbol) (symbol_of (slice_index_or moves end d).symbol))
                (is_first d) low
            | inr same ↦ absurd (group.other d less (sym same.0))
          ]

  pub boundary_end : IsBoundary moves end
  boundary_end j k d l m n = elim (cases_lt j at) [
    | inl less ↦ boundary j k d less (let b = group.behind in omega (arith, b, m)) n
    | inr past ↦ subst (λ x. IsLess (symbol_of x) (symbol_of (slice_index_or moves k d).symbol))
        (sym (same_symbol j d past l))
        (beyond k d m n)
  ]

  pub moved : (i : Item) → Contains kernel i ↔ IsMoved G from X i
  moved i = (
    λ c.
        let m = of_map (slice_range moves at end) i c in
        let s = spot_of moves at end m.0 group.within m.1 in
        let symbol : m.0.symbol ≡ first.symbol = ap (λ n. n.symbol) (sym (s.is first))
        ∙ same_symbol s.k first s.low s.high in
        let there : Contains moves m.0 =
        (s.k, let w = group.within in let h = s.high in omega (arith, w, h), s.is m.0) in
        subst (IsMoved G from X) m.2
        (subst (λ x. IsMoved G from (symbol_of x) m.0.item) symbol ((are.each m.0).0 there).1),
    λ h.
        let m : Move = record { symbol = first.symbol; item = i } in
        to_map (slice_range moves at end) m
        (of_spot moves at end m group.within (spot m ((are.each m).1 (other, h)) refl)),
  )
    where
      spot : (m : Move) → Contains moves m → m.symbol ≡ first.symbol → IsSpot moves at end m
      spot m c e = elim (cases_lt c.0 at) [
        | inl less ↦
            let b = group.behind in let w = group.within in
            let off : IsLess X X = subst (λ x. IsLess (symbol_of x) X) (ap (λ n. n.symbol) c.2 ∙ e)
            (subst (λ n. IsLess (symbol_of (slice_index_or moves c.0 m).symbol) (symbol_of n.symbol)) (is_first m)
            (boundary c.0 at m less (omega arith) (omega (arith, b, w)))) in
            absurd (less_off X off)
        | inr low ↦ elim (cases_lt c.0 end) [
          | inl high ↦ record { k = c.0; low = low; high = high; is = λ d. get_or_default moves c.0 d m c.1 ∙ c.2 }
          | inr past ↦ absurd (less_off X (subst (λ x. IsLess X (symbol_of x)) (ap (λ n. n.symbol) c.2 ∙ e)
              (beyond c.0 m past c.1)))
        ]
      ]

  pub some : (i : Item) × Contains kernel i
  some = (first.item, (moved first.item).1 ((are.each first).0 first_there).1)

  pub kept : AreKept G kernel
  kept i c = let m = (moved i).0 c in (m.3.0, m.3.1)

  pub rising : AreRising kernel
  rising i j d l m =
      let b = group.behind in
      let w = group.within in
      let e : Move = record { symbol = first.symbol; item = d } in
      let long : length kernel ≡ end - at
      = omega (
        arith,
        length-map (slice_range moves at end) (λ (m : Move). m.item),
        length-take-le (end - at) (drop at moves)
            (omega (arith, length-drop at moves, w)),
      ) in
      let high : j < end - at = omega (arith, m, long) in
      let item : (k : ℕ) → k < end - at → slice_index_or kernel k d ≡ (slice_index_or moves (at + k) e).item
      = λ k h. get_or-map (λ (m : Move). m.item) (slice_range moves at end) k e d
      (omega (arith, h, length-take-le (end - at) (drop at moves) (omega (arith, length-drop at moves, w))))
      ∙ ap (λ (m : Move). m.item) (get_or-take (end - at) (drop at moves) k e h ∙ get_or-drop at moves k e) in
      let first_of = item i (omega (arith, l, high)) in
      let second_of = item j high in
      subst (λ x. item_cmp x (slice_index_or kernel j d) ≡ Less) (sym first_of)
      (subst (λ x. item_cmp (slice_index_or moves (at + i) e).item x ≡ Less) (sym second_of)
      (elim (are.rising (at + i) (at + j) e (omega (arith, l)) (omega (arith, high, w))) [
        | inl low ↦ absurd (less_off X (subst (λ x. IsLess (symbol_of x) X) (same_symbol (at + i) e (omega arith)
            (omega (arith, l, high, b)))
            (subst (λ x. IsLess (symbol_of (slice_index_or moves (at + i) e).symbol) (symbol_of x))
            (same_symbol (at + j) e (omega arith) (omega (arith, high, b))) low)))
        | inr same ↦ same.1
      ]))

  -- transitions over symbols before the place are less, and those before the end have one more
  pub greater : (part : List Transition)
      → ((t : Transition) → Contains part t → (j : ℕ) × (j < at)
      × ((d : Move) → t.symbol ≡ symbol_of (slice_index_or moves j d).symbol))
      → (t : Transition) → Contains part t → IsLess t.symbol X
  greater part each t c =
      let e = each t c in
      let b = group.behind in
      let w = group.within in
      subst (λ Y. IsLess Y X) (sym (e.2 first))
      (subst (λ n. IsLess (symbol_of (slice_index_or moves e.0 first).symbol) (symbol_of n.symbol))
      (is_first first) (boundary e.0 at first e.1 (omega arith) (omega (arith, b, w))))

  pub each_more : (part : List Transition) (n : ℕ)
      → ((t : Transition) → Contains part t → (j : ℕ) × (j < at)
      × ((d : Move) → t.symbol ≡ symbol_of (slice_index_or moves j d).symbol))
      → (t : Transition) → Contains (part ++ record { symbol = X; target = n } ∷ []) t
      → (j : ℕ) × (j < end) × ((d : Move) → t.symbol ≡ symbol_of (slice_index_or moves j d).symbol)
  each_more part n each t c = elim (Contains-push_cases part (record { symbol = X; target = n }) t c) [
    | inl old ↦ let e = each t old in (e.0, let b = group.behind in let l = e.1 in omega arith, e.2)
    | inr same ↦ (
      at,
      group.behind,
      λ d. ap (λ u. u.symbol) (sym same)
          ∙ ap (λ m. symbol_of m.symbol) (sym (is_first d)),
    )
  ]

  pub done_more : (part : List Transition) (n : ℕ)
      → ((k : ℕ) (d : Move) → k < at → (t : Transition) × Contains part t
      × (t.symbol ≡ symbol_of (slice_index_or moves k d).symbol))
      → (k : ℕ) (d : Move) → k < end → (t : Transition) × Contains (part ++ record { symbol = X; target = n } ∷ []) t
      × (t.symbol ≡ symbol_of (slice_index_or moves k d).symbol)
  done_more part n done k d l = elim (cases_lt k at) [
    | inl less ↦ let t = done k d less in
        (t.0, Contains-append_left part (record { symbol = X; target = n } ∷ []) t.0 t.1, t.2)
    | inr past ↦ (
      record { symbol = X; target = n },
      Contains-push part (record { symbol = X; target = n }),
      ap symbol_of (sym (same_symbol k d past l)),
    )
  ]
