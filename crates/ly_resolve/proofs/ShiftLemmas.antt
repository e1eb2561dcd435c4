-- States in which no rule is complete: they shift alone.
use Rattle.std.proofs.Common.{◌≡◌, ◌≢◌, ◌∙◌, ◌⊎◌, inl, inr, ℕ, ◌+◌, ◌<◌, ◌≤◌, List, [], ◌∷◌, ◌++◌, Bool, Some}
use Rattle.std.proofs.Common.{Contains, ap, arith, length, refl, slice_get, slice_index_or, subst, sym}
use Rattle.std.specs.Prelude.{option_and_then}
use Rattle.std.specs.List.{AllPairs, filter}
use Rattle.std.proofs.lemmas.Bool.{cases_eq, cases_order}
use Rattle.std.proofs.lemmas.List.Elements.{Contains-append_cases, Contains-append_left, Contains-append_right}
use Rattle.std.proofs.lemmas.List.Kept.{AllPairs-filter}
use Rattle.std.proofs.lemmas.Option.{get_or_from_slice_get, slice_get_within}
use Rattle.ly_base.proofs.ListLemmas.{AllPairs-append}
use Rattle.ly_base.proofs.MemberLemmas.{Contains-first, Contains-none, Contains-one}
use Rattle.ly_join.proofs.ListLemmas.{member_at, placed}
use Rattle.ly_join.proofs.NumberingLemmas.{filter_in, in_filter}
use Rattle.ly_join.specs.Grammar.{Symbol, nonterminal, terminal}
use Rattle.ly_lr0.specs.Automaton.{IsLess, IsLr0Automaton, Lr0Automaton, Transition, goto_of, prefix_of, state_at}
use Rattle.ly_lr0.specs.Automaton.{is_shift, target_of}
use Rattle.ly_lr0.proofs.StateLemmas.{state_there, target_at, target_some}
use Rattle.ly_resolve.specs.Actions.{Action, Judge, IsAction, IsRaw, PrecedenceVerdict, error, reduce, shift}
use Rattle.ly_resolve.specs.Conflicts.{Conflict, CountsAs, Kind, reduce_reduce, shift_reduce}
use Rattle.ly_resolve.specs.Private.Found.{AreTold, IsPast}
use Rattle.ly_resolve.specs.Private.Shifts.{AreShifts, IsShiftedTo}
use Rattle.ly_resolve.specs.Resolved.{IsRow, TerminalAction}
use Rattle.ly_resolve.proofs.FoundLemmas.{later_state}
use Rattle.ly_resolve.proofs.RawLemmas.{reduction_complete, terminal_shifted}

-- what is counted asks for a reduction by its rule
counts_reduce : (A : Action → Type 0) (v : ℕ → PrecedenceVerdict) (k : Kind) (p : ℕ) → CountsAs A v k p → A (reduce p)
counts_reduce A v shift_reduce p c = c.1
counts_reduce A v reduce_reduce p c = c.0.0

-- an entry that is past is one of an earlier state, or of the last one
past_next : (s k u : ℕ) → IsPast (s + 1) 0 k u → (k < s) ⊎ (k ≡ s)
past_next s k u (inl lt) = elim (cases_order k s) [
  | inl same ↦ inr same
  | inr (inl less) ↦ inl less
  | inr (inr more) ↦ absurd (omega (arith, lt, more))
]
past_next s k u (inr (e, lt)) = absurd (omega (arith, lt))

abbrev pub over : ℕ → ℕ → Transition
over t r = record { symbol = terminal t; target = r }

abbrev pub shift_of : ℕ → TerminalAction
shift_of t = record { terminal = t; action = shift }

module _ (M : Lr0Automaton) (is : IsLr0Automaton M) (s : ℕ) (lt : s < length M.states) where
  abbrev pub transitions : List Transition
  transitions = (state_at M s).transitions

  abbrev pub shifts : List Transition
  shifts = filter is_shift transitions

  ordered : AllPairs (λ x y. IsLess x.symbol y.symbol) transitions
  ordered = (is.each s (state_at M s) (state_there M s lt)).ordered

  by_state : (X : Symbol) → goto_of M s X ≡ target_of transitions X
  by_state X = ap (option_and_then (λ q. target_of q.transitions X)) (state_there M s lt)

  -- a transition leads where it says
  leads : (k t r : ℕ) → slice_get shifts k ≡ Some (over t r) → goto_of M s (terminal t) ≡ Some r
  leads k t r at = by_state (terminal t)
      ∙ target_at transitions ordered (over t r)
      (in_filter is_shift transitions (over t r) (member_at shifts k (over t r) at)).0

  -- and none is over the end
  no_end : (k t r : ℕ) → slice_get shifts k ≡ Some (over t r) → t ≢ 0
  no_end k t r at z =
      let e = subst (λ u. goto_of M s (terminal u) ≡ Some r) z (leads k t r at) in
      (is.cores.only (terminal 0 ∷ prefix_of M s) r (s, is.numbered.leads s lt, e)).0.0 refl

  less : (k i t u r q : ℕ) → k < i → slice_get shifts k ≡ Some (over t r)
      → slice_get shifts i ≡ Some (over u q) → t < u
  less k i t u r q lower at there =
      let d = over t r in
      let both = AllPairs-filter (λ x y. IsLess x.symbol y.symbol) is_shift transitions ordered k i d lower
      (slice_get_within shifts i (over u q) there) in
      subst (λ y. IsLess (terminal t) y.symbol) (get_or_from_slice_get shifts i (over u q) d there)
      (subst (λ x. IsLess x.symbol (slice_index_or shifts i d).symbol)
      (get_or_from_slice_get shifts k d d at) both)

  -- before the first shift
  pub shifts_none : (IsRaw M.grammar (prefix_of M s) 0 shift → ⊥) → AreShifts M s 0 []
  shifts_none not_end = record {
    ordered = λ i j d l m. absurd (omega (arith, m));
    are = λ x. (
      λ has. Contains-none x has,
      λ w. absurd (elim w.1 [
        | inl end ↦ not_end end.1
        | inr before ↦ let low = before.2 in omega (arith, low)
      ]),
    );
  }

  pub shifts_end : IsRaw M.grammar (prefix_of M s) 0 shift → AreShifts M s 0 (shift_of 0 ∷ [])
  shifts_end raw = record {
    ordered = λ i j d l m. absurd (omega (arith, l, m));
    are = λ x. (
      λ has. subst (λ y. (y.action ≡ shift) × IsShiftedTo M s 0 y.terminal) (Contains-one (shift_of 0) x has)
          (refl, inl (refl, raw)),
      λ w. elim w.1 [
        | inl end ↦
            let made : ℕ → Action → TerminalAction = λ n b. record { terminal = n; action = b } in
            let same : shift_of 0 ≡ x = ap (λ n. made n shift) (sym end.0) ∙ ap (made x.terminal) (sym w.0) in
            subst (Contains (shift_of 0 ∷ [])) same (Contains-first (shift_of 0) [])
        | inr before ↦ absurd (let low = before.2 in omega (arith, low))
      ],
    );
  }

  later : (i t : ℕ) → IsShiftedTo M s i t → IsShiftedTo M s (i + 1) t
  later i t (inl end) = inl end
  later i t (inr (k, r, low, at)) = inr (k, r, omega (arith, low), at)

  -- one over a terminal adds its shift
  pub shifts_more : (i t r : ℕ) (row : List TerminalAction) → slice_get shifts i ≡ Some (over t r)
      → AreShifts M s i row → AreShifts M s (i + 1) (row ++ shift_of t ∷ [])
  shifts_more i t r row at before = record {
    ordered = AllPairs-append (λ x y. x.terminal < y.terminal) row (shift_of t ∷ []) before.ordered
        (λ i j d l m. absurd (omega (arith, l, m)))
        (λ x y hx hy. subst (λ z. x.terminal < z.terminal) (Contains-one (shift_of t) y hy)
        (below x ((before.are x).0 hx).1));
    are = λ x. (
      λ has. elim (Contains-append_cases row (shift_of t ∷ []) x has) [
        | inl old ↦ let w = (before.are x).0 old in (w.0, later i x.terminal w.1)
        | inr now ↦ subst (λ z. (z.action ≡ shift) × IsShiftedTo M s (i + 1) z.terminal)
            (Contains-one (shift_of t) x now) (refl, inr (i, r, (omega arith), at))
      ],
      λ w. back x w.0 w.1,
    );
  }
    where
      below : (x : TerminalAction) → IsShiftedTo M s i x.terminal → x.terminal < t
      below x (inl end) = let off = no_end i t r at in let z = end.0 in omega (arith, off, z)
      below x (inr (k, q, low, there)) = less k i x.terminal t q r low there at

      back : (x : TerminalAction) → x.action ≡ shift → IsShiftedTo M s (i + 1) x.terminal
          → Contains (row ++ shift_of t ∷ []) x
      back x a (inl end) = Contains-append_left row (shift_of t ∷ []) x ((before.are x).1 (a, inl end))
      back x a (inr (k, q, low, there)) = elim (cases_eq k i) [
        | inl same ↦
            let one : Some (over x.terminal q) ≡ Some (over t r)
            = sym there ∙ (ap (slice_get shifts) same ∙ at) in
            let of : Symbol → ℕ → ℕ = λ X d. elim X [ terminal u ↦ u | nonterminal A ↦ d ] in
            let e : over x.terminal q ≡ over t r = cc in
            let is_t : x.terminal ≡ t = ap (λ y. of y.symbol 0) e in
            let made : ℕ → Action → TerminalAction = λ n b. record { terminal = n; action = b } in
            let whole : shift_of t ≡ x = ap (λ n. made n shift) (sym is_t) ∙ ap (made x.terminal) (sym a) in
            Contains-append_right row (shift_of t ∷ []) x
            (subst (Contains (shift_of t ∷ [])) whole (Contains-first (shift_of t) []))
        | inr off ↦ Contains-append_left row (shift_of t ∷ []) x
            ((before.are x).1 (a, inr (k, q, (omega (arith, low, off)), there)))
      ]

  -- one over a nonterminal adds none
  pub shifts_past : (i A r : ℕ) (row : List TerminalAction)
      → slice_get shifts i ≡ Some (record { symbol = nonterminal A; target = r })
      → AreShifts M s i row → AreShifts M s (i + 1) row
  shifts_past i A r row at before = record {
    ordered = before.ordered;
    are = λ x. (
      λ has. let w = (before.are x).0 has in (w.0, later i x.terminal w.1),
      λ w. (before.are x).1 (w.0, earlier x.terminal w.1),
    );
  }
    where
      earlier : (t : ℕ) → IsShiftedTo M s (i + 1) t → IsShiftedTo M s i t
      earlier t (inl end) = inl end
      earlier t (inr (k, q, low, there)) = elim (cases_eq k i) [
        | inl same ↦
            let one = sym there ∙ (ap (slice_get shifts) same ∙ at) in
            let e : over t q ≡ record { symbol = nonterminal A; target = r } = cc in
            let apart : terminal t ≡ nonterminal A = ap (λ y. y.symbol) e in
            absurd (cc)
        | inr off ↦ inr (k, q, (omega (arith, low, off)), there)
      ]

  module _ (none : (state_at M s).complete ≡ []) where
    no_reduction : (t p : ℕ) → IsRaw M.grammar (prefix_of M s) t (reduce p) → ⊥
    no_reduction t p raw = Contains-none p (subst (λ ps. Contains ps p) none (reduction_complete M is s t p lt raw))

    shifts_only : (t : ℕ) (a : Action) → IsRaw M.grammar (prefix_of M s) t a → a ≡ shift
    shifts_only t shift raw = refl
    shifts_only t (reduce p) raw = absurd (no_reduction t p raw)
    shifts_only t error raw = absurd raw

    does_only : (judge : Judge) (t : ℕ) (a : Action) → IsAction M.grammar judge (prefix_of M s) t a → a ≡ shift
    does_only judge t shift done = refl
    does_only judge t (reduce p) done = absurd (no_reduction t p done.0.0)
    does_only judge t error done = absurd (no_reduction t done.2 done.3)

    is_done : (judge : Judge) (t : ℕ) → IsRaw M.grammar (prefix_of M s) t shift
        → IsAction M.grammar judge (prefix_of M s) t shift
    is_done judge t raw = (raw, λ p asked. absurd (no_reduction t p asked))

    -- past the last one the shifts are all that is done
    pub shifts_all : (i : ℕ) (row : List TerminalAction) → length shifts ≤ i → AreShifts M s i row
        → (judge : Judge) → IsRow M.grammar judge (prefix_of M s) row
    shifts_all i row past before judge = record {
      ordered = before.ordered;
      are = λ x. (
        λ has. let w = (before.are x).0 has in
            subst (IsAction M.grammar judge (prefix_of M s) x.terminal) (sym w.0)
            (is_done judge x.terminal (raw x.terminal w.1)),
        λ done. let only = does_only judge x.terminal x.action done in (before.are x).1 (
          only,
          back x.terminal (subst (IsAction M.grammar judge (prefix_of M s) x.terminal) only done).0,
        ),
      );
      whole = λ t a asked. (
        shift,
        is_done judge t (subst (IsRaw M.grammar (prefix_of M s) t) (shifts_only t a asked) asked),
      );
    }
      where
        raw : (t : ℕ) → IsShiftedTo M s i t → IsRaw M.grammar (prefix_of M s) t shift
        raw t (inl end) = subst (λ u. IsRaw M.grammar (prefix_of M s) u shift) (sym end.0) end.1
        raw t (inr (k, r, low, at)) = (terminal_shifted M is s t lt (no_end k t r at)).0 (r, leads k t r at)

        back : (t : ℕ) → IsRaw M.grammar (prefix_of M s) t shift → IsShiftedTo M s i t
        back t asked = elim (cases_eq t 0) [
          | inl z ↦ inl (z, subst (λ u. IsRaw M.grammar (prefix_of M s) u shift) z asked)
          | inr off ↦
              let led = (terminal_shifted M is s t lt off).1 asked in
              let has = target_some transitions (terminal t) led.0 (sym (by_state (terminal t)) ∙ led.1) in
              let k = placed shifts (over t led.0) (filter_in is_shift transitions (over t led.0) has refl) in
              let within = slice_get_within shifts k.0 (over t led.0) k.1 in
              inr (k.0, led.0, (omega (arith, within, past)), k.1)
        ]

    -- and no conflict is told
    pub told_shifts : (judge : Judge) (cs : List Conflict) (free : Bool) → AreTold M judge s 0 cs free
        → AreTold M judge (s + 1) 0 cs free
    told_shifts judge cs free before = record {
      are = λ c. (
        λ has. let of = (before.are c).0 has in record {
          state = of.state;
          within = of.within;
          prefix = of.prefix;
          past = later_state s 0 of.state c.terminal of.past;
          counted = of.counted;
          choice = of.choice;
        },
        λ of. elim (past_next s of.state c.terminal of.past) [
          | inl low ↦ (before.are c).1 (record {
            state = of.state;
            within = of.within;
            prefix = of.prefix;
            past = inl low;
            counted = of.counted;
            choice = of.choice;
          })
          | inr here ↦
              let asked = counts_reduce (IsRaw M.grammar c.prefix c.terminal) (λ p. judge p c.terminal) c.kind c.rule
              of.counted in
              absurd (no_reduction c.terminal c.rule (subst (λ g. IsRaw M.grammar g c.terminal (reduce c.rule))
              (of.prefix ∙ ap (prefix_of M) here) asked))
        ],
      );
      ordered = before.ordered;
      free = (
        λ held k u x y within past rx ry. elim (past_next s k u past) [
          | inl low ↦ before.free.0 held k u x y within (inl low) rx ry
          | inr here ↦
              let at : (a : Action) → IsRaw M.grammar (prefix_of M k) u a → a ≡ shift
              = λ a raw. shifts_only u a (subst (λ n. IsRaw M.grammar (prefix_of M n) u a) here raw) in
              at x rx ∙ sym (at y ry)
        ],
        λ all. before.free.1 (λ k u x y within past. all k u x y within (later_state s 0 k u past)),
      );
    }
