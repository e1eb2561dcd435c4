-- A row as its transitions are entered.
use Rattle.std.proofs.Common.{◌≡◌, ◌⊎◌, inl, inr, ℕ, suc, ◌<◌, ◌≤◌, List, [], ◌∷◌, ◌++◌}
use Rattle.std.proofs.Common.{refl, sym, ◌∙◌, ap, subst, arith, length, map}
use Rattle.std.specs.Prelude.{◌↔◌, Contains, slice_index_or, slice_range}
use Rattle.std.proofs.lemmas.Bool.{cases_lt}
use Rattle.std.proofs.lemmas.List.{get_or_append_left, get_or_default, get_or_push, length_push}
use Rattle.ly_base.proofs.MemberLemmas.{Contains-none}
use Rattle.ly_base.specs.Keys.{IsAbsent}
use Rattle.ly_join.specs.Grammar.{Grammar, IsAugmented, Symbol, nonterminal, symbol_of, terminal}
use Rattle.ly_join.specs.declared.symbol.Symbol as code
use Rattle.ly_join.specs.declared.symbol.Symbol.TheVariants.{Terminal, Nonterminal}
use Rattle.ly_grammar.specs.Derivations.{IsReduced}
use Rattle.ly_grammar.specs.Items.{HasMoreCores}
use Rattle.ly_lr0.specs.Automaton.{Transition}
use Rattle.ly_lr0.specs.declared.item.Item.{Item}
use Rattle.ly_lr0.specs.declared.item.Move.{Move}
use Rattle.ly_lr0.specs.Private.Built.{AreFound, AreInOrder, HasTransition, IsLed, IsNumbered, IsWholeRow, Link}
use Rattle.ly_lr0.specs.Private.Built.{LinkIsLess, link_at}
use Rattle.ly_lr0.specs.Private.Closing.{AreMoves, IsGroupEnd}
use Rattle.ly_lr0.specs.Private.Items.{IsBehind, IsMoved}
use Rattle.ly_lr0.specs.Private.Kernels.{kernel_at}
use Rattle.ly_lr0.specs.Private.Shared.{move_at, no_move}
use Rattle.ly_lr0.proofs.BuiltLemmas.{found_more}
use Rattle.ly_lr0.proofs.FinalLemmas.{more_cores}
use Rattle.ly_lr0.proofs.GroupLemmas as group
use Rattle.ly_lr0.proofs.GroupLemmas.{IsBoundary}

-- The transitions over the symbols before a place of a kernel's moves are entered.
pub record HasEntered (G : Grammar) (kernels : List (List Item)) (links : List Link) (rows : List (List Transition))
    (part : List Transition) (s : ℕ) (moves : List Move) (at : ℕ) : Type 0 where
  pub state : s ≡ length rows
  pub next : s < length kernels
  pub are : AreMoves G (kernel_at kernels s) moves
  pub found : AreFound G kernels links (rows ++ part ∷ [])
  pub boundary : IsBoundary moves at
  pub each : (t : Transition) → Contains part t
      → (j : ℕ) × (j < at) × ((d : Move) → t.symbol ≡ symbol_of (slice_index_or moves j d).symbol)
  pub done : (k : ℕ) (d : Move) → k < at → (t : Transition) × Contains part t
      × (t.symbol ≡ symbol_of (slice_index_or moves k d).symbol)

-- one more row, of which there may be the first transitions only
pub found_part : (G : Grammar) (kernels : List (List Item)) (links : List Link) (rows : List (List Transition))
    (part : List Transition) → length rows < length kernels → AreFound G kernels links rows → AreInOrder part
    → ((t : Transition) → Contains part t → IsLed G kernels (length rows) t)
    → ((t : Transition) (k : ℕ) → Contains part t → t.target ≡ suc k
    → LinkIsLess (link_at links k) (record { from = length rows; symbol = t.symbol }))
    → AreFound G kernels links (rows ++ part ∷ [])
found_part G kernels links rows part less found ordered part_led part_first = record {
  start = found.start;
  count = found.count;
  rising = found.rising;
  kept = found.kept;
  apart = found.apart;
  within = omega (arith, less, length_push rows part);
  sorted = λ s l. elim (cases_lt s (length rows)) [
    | inl low ↦ subst AreInOrder (sym (get_or_append_left rows (part ∷ []) [] s low)) (found.sorted s low)
    | inr past ↦
        let last : length rows ≡ s = omega (arith, l, past, length_push rows part) in
        subst AreInOrder (sym (get_or_push rows part [] s last)) ordered
  ];
  led = λ s t h. elim (old s t h) [
    | inl was ↦ found.led s t was
    | inr new ↦ subst (λ m. IsLed G kernels m t) (sym new.0) (part_led t new.1)
  ];
  linked = λ k l. let h = found.linked k l in (
    omega (arith, h.0, length_push rows part),
    subst (λ r. Contains r (record { symbol = (link_at links k).symbol; target = suc k }))
        (sym (get_or_append_left rows (part ∷ []) [] (link_at links k).from h.0)) h.1,
  );
  back = found.back;
  ordered = found.ordered;
  first = λ s t k h e. elim (old s t h) [
    | inl was ↦ found.first s t k was e
    | inr new ↦ inr (subst (λ m. LinkIsLess (link_at links k) (record { from = m; symbol = t.symbol })) (sym new.0)
        (part_first t k new.1 e))
  ];
}
  where
    old : (s : ℕ) (t : Transition) → HasTransition (rows ++ part ∷ []) s t
        → HasTransition rows s t ⊎ ((s ≡ length rows) × Contains part t)
    old s t h = elim (cases_lt s (length rows)) [
      | inl low ↦ inl (low, subst (λ r. Contains r t) (get_or_append_left rows (part ∷ []) [] s low) h.1)
      | inr past ↦
          let last : length rows ≡ s = omega (arith, h.0, past, length_push rows part) in
          inr (sym last, subst (λ r. Contains r t) (get_or_push rows part [] s last) h.1)
    ]

pub entered_start : (G : Grammar) (kernels : List (List Item)) (links : List Link) (rows : List (List Transition))
    (s : ℕ)
    (moves : List Move) → s ≡ length rows → s < length kernels → AreMoves G (kernel_at kernels s) moves
    → AreFound G kernels links rows → HasEntered G kernels links rows [] s moves 0
entered_start G kernels links rows s moves state next are found = record {
  state = state;
  next = next;
  are = are;
  found = found_part G kernels links rows [] (omega (arith, state, next)) found (λ i j d a b. absurd (omega (arith, b)))
      (λ t c. Contains-none t c) (λ t k c. Contains-none t c);
  boundary = λ j k d l. absurd (omega (arith, l));
  each = λ t c. Contains-none t c;
  done = λ k d l. absurd (omega (arith, l));
}

pub kernel_kept : (kernels : List (List Item)) (links : List Link) (kernel : List Item) (link : Link)
    (kernels' : List (List Item))
    (links' : List Link) (n s : ℕ) → IsNumbered kernels links kernel link kernels' links' n → s < length kernels
    → (kernel_at kernels' s ≡ kernel_at kernels s) × (s < length kernels')
kernel_kept kernels links kernel link kernels' links' n s (inl k) l = (
  ap (λ ks. kernel_at ks s) k.2,
  omega (arith, l, ap length k.2),
)
kernel_kept kernels links kernel link kernels' links' n s (inr k) l = (
  ap (λ ks. kernel_at ks s) k.2 ∙ get_or_append_left kernels (kernel ∷ []) [] s l,
  omega (arith, l, ap length k.2, length_push kernels kernel),
)

-- a symbol as it is kept
pub kept_symbol : (X : Symbol) → (x : code.Symbol) × (symbol_of x ≡ X)
kept_symbol (terminal t) = (Terminal (record { 0 = t }), refl)
kept_symbol (nonterminal A) = (Nonterminal (record { 0 = A }), refl)

module _ (G : Grammar) (kernels : List (List Item)) (links : List Link) (rows : List (List Transition))
    (part : List Transition) (s : ℕ) (moves : List Move) (at : ℕ)
    (was : HasEntered G kernels links rows part s moves at) where
  -- with all moves behind, the row is whole
  pub entered_whole : length moves ≤ at → IsWholeRow G (kernel_at kernels s) part
  entered_whole end X other p d c b =
      let x = kept_symbol X in
      let m : Move = record { symbol = x.0; item = record { rule = p; dot = suc d } } in
      let there = (was.are.each m).1 (
        (λ e. other (sym x.1 ∙ e)),
        (d, refl, c, subst (IsBehind G p d) (sym x.1) b),
      ) in
      let t = was.done there.0 m (omega (arith, there.1, end)) in
      (t.0, t.1, t.2 ∙ ap (λ n. symbol_of n.symbol) there.2 ∙ x.1)

  module _ (end : ℕ) (is_end : IsGroupEnd moves at end) where
    abbrev X : Symbol
    X = symbol_of (move_at moves at).symbol

    abbrev kernel : List Item
    kernel = map (λ m. m.item) (slice_range moves at end)

    first_is : (d : Move) → slice_index_or moves at d ≡ move_at moves at
    first_is d = get_or_default moves at d no_move (let b = is_end.behind in let w = is_end.within in
        omega (arith, b, w))

    pub entered_more : (kernels' : List (List Item)) (links' : List Link) (n : ℕ)
        → IsNumbered kernels links kernel (record { from = s; symbol = X }) kernels' links' n
        → HasEntered G kernels' links' rows (part ++ record { symbol = X; target = n } ∷ []) s moves end
    entered_more kernels' links' n numbered =
        let kept = kernel_kept kernels links kernel (record { from = s; symbol = X }) kernels' links' n s numbered
        was.next in
        let moved = group.moved G (kernel_at kernels s) moves at end was.are is_end was.boundary (move_at moves at)
        first_is in
        let greater = group.greater G (kernel_at kernels s) moves at end was.are is_end was.boundary (move_at moves at)
        first_is
        part was.each in
        record {
          state = was.state;
          next = kept.1;
          are = subst (λ k. AreMoves G k moves) (sym kept.0) was.are;
          found = found_more G kernels links rows part X kernel was.found
              (group.other G (kernel_at kernels s) moves at end was.are is_end was.boundary (move_at moves at) first_is)
              (subst (λ m. (i : Item) → Contains kernel i ↔ IsMoved G (kernel_at kernels m) X i) was.state moved)
              (group.some G (kernel_at kernels s) moves at end was.are is_end was.boundary (move_at moves at) first_is)
              (group.rising G (kernel_at kernels s) moves at end was.are is_end was.boundary (move_at moves at)
              first_is)
              (group.kept G (kernel_at kernels s) moves at end was.are is_end was.boundary (move_at moves at) first_is)
              greater kernels' links' n
              (subst (λ m. IsNumbered kernels links kernel (record { from = m; symbol = X }) kernels' links' n)
              was.state
              numbered);
          boundary = group.boundary_end G (kernel_at kernels s) moves at end was.are is_end was.boundary
              (move_at moves at)
              first_is;
          each = group.each_more G (kernel_at kernels s) moves at end was.are is_end was.boundary (move_at moves at)
              first_is
              part n was.each;
          done = group.done_more G (kernel_at kernels s) moves at end was.are is_end was.boundary (move_at moves at)
              first_is
              part n was.done;
        }

    pub entered_past : IsAugmented G → IsReduced G → (limit : ℕ) → length kernels ≡ limit → IsAbsent kernels kernel
        → HasMoreCores G limit
    entered_past augmented reduced limit full absent =
        let some = group.some G (kernel_at kernels s) moves at end was.are is_end was.boundary (move_at moves at)
        first_is in
        more_cores G augmented reduced kernels links (rows ++ part ∷ []) was.found limit s X kernel (sym full) was.next
        (group.other G (kernel_at kernels s) moves at end was.are is_end was.boundary (move_at moves at) first_is)
        (group.moved G (kernel_at kernels s) moves at end was.are is_end was.boundary (move_at moves at) first_is)
        some.0 some.1
        (group.rising G (kernel_at kernels s) moves at end was.are is_end was.boundary (move_at moves at) first_is)
        absent
