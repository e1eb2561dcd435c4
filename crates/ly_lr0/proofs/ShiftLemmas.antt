-- The transitions of a state over terminals, and those over nonterminals.
use Rattle.std.proofs.Common.{All, Bool, ◌∙◌, ◌≡◌, inl, inr, ℕ, suc, ◌+◌, ◌<◌, List, [], ◌∷◌, ◌++◌, true, false}
use Rattle.std.proofs.Common.{Some, refl, sym, ap, arith, drop, length, map, subst, take}
use Rattle.std.specs.Prelude.{filter, nat_eq, not, if◌then◌else◌}
use Rattle.std.specs.Rc.{rc_slice_items}
use Rattle.std.proofs.lemmas.Bool.{cases_Bool}
use Rattle.std.proofs.lemmas.Bool.Decides.{Decides-and, Decides-eqb, Decides-like}
use Rattle.std.specs.Bool.{Decides}
use Rattle.std.proofs.lemmas.List.{append-nil, get_or-drop, get_or-take, length-drop, length-take-le, map-append}
use Rattle.std.proofs.lemmas.List.Elements.{filter-append}
use Rattle.std.proofs.lemmas.Slice.Eq.{slice_eq-Decides}
use lib.Pointwise.{pointwise}
use Rattle.ly_join.specs.Grammar.{Symbol, nonterminal, symbol_of, terminal}
use Rattle.ly_join.specs.declared.symbol.Symbol as symbol
use Rattle.ly_join.specs.declared.symbol.Symbol.TheVariants.{Nonterminal, Terminal}
use Rattle.ly_lr0.specs.Automaton.{IsLess, Lr0Automaton, Transition, goto_of, is_goto, is_shift, is_terminal}
use Rattle.ly_lr0.specs.Automaton.{state_at, symbol_eq, target_of}
use Rattle.ly_lr0.specs.contracts.transition.TransitionPartialEq.TheImpl as test
use Rattle.ly_lr0.specs.declared.transition.Row.{Row}
use Rattle.ly_lr0.specs.declared.transition.Transition as code
use Rattle.ly_lr0.specs.Private.Built.{transitions_of}
use Rattle.ly_lr0.specs.Private.Kinds.{AreOverNonterminals, AreOverTerminals}
use Rattle.ly_lr0.specs.Private.Places.{IsPlace, symbol_at}
use Rattle.ly_lr0.specs.Transitions.{transition_of}
use Rattle.ly_lr0.proofs.StateLemmas.{goes_by, symbol_same}

-- a symbol before nonterminal 0 is a terminal
terminal_before : (X : Symbol) → IsLess X (nonterminal 0) → is_terminal X ≡ true
terminal_before (terminal t) less = refl
terminal_before (nonterminal A) less = absurd (omega (arith, less))

-- and any other isn't
terminal_not_behind : (X : Symbol) → (IsLess X (nonterminal 0) → ⊥) → is_terminal X ≡ false
terminal_not_behind (terminal t) off = absurd (off tt)
terminal_not_behind (nonterminal A) off = refl

-- those before the place of nonterminal 0 are over terminals
pub shifts_before : (ts : List code.Transition) (n : ℕ) → IsPlace ts (nonterminal 0) n → AreOverTerminals (take n ts)
shifts_before ts n is k d l =
    let long = is.within in
    let less : k < n = omega (arith, l, length-take-le n ts long) in
    subst (λ t. is_terminal (symbol_of t.symbol) ≡ true) (sym (get_or-take n ts k d less))
    (terminal_before (symbol_at ts k d) (is.before k d less))

-- and those from it on are over nonterminals
pub gotos_behind : (ts : List code.Transition) (n : ℕ) → IsPlace ts (nonterminal 0) n → AreOverNonterminals (drop n ts)
gotos_behind ts n is k d l =
    let long = is.within in
    let less : n + k < length ts = omega (arith, l, length-drop n ts) in
    subst (λ t. is_terminal (symbol_of t.symbol) ≡ false) (sym (get_or-drop n ts k d))
    (terminal_not_behind (symbol_at ts (n + k) d) (is.behind (n + k) d (omega arith) less))

-- whether a transition is over a symbol of a kind: terminals are true, nonterminals false
abbrev pub is_of : Bool → Transition → Bool
is_of true = is_shift
is_of false = is_goto

-- the transitions of a row over symbols of a kind
abbrev pub of_kind : Bool → Row → List code.Transition
of_kind true row = rc_slice_items row.shifts
of_kind false row = row.gotos.items

-- what a test leaves of transitions that all pass it, or of which none does
alike : (p : Transition → Bool) (answer : Bool) (ts : List code.Transition)
    → All (λ t. p (transition_of t) ≡ answer) ts
    → filter p (map transition_of ts) ≡ (if answer then map transition_of ts else [])
alike p true [] are = refl
alike p false [] are = refl
alike p true (t ∷ ts) are =
    let on : p (transition_of t) ≡ true = are 0 t (omega arith) in
    rw on (ap (λ us. transition_of t ∷ us) (alike p true ts (λ k d l. are (suc k) d (omega (arith, l)))))
alike p false (t ∷ ts) are =
    let off : p (transition_of t) ≡ false = are 0 t (omega arith) in
    rw off (alike p false ts (λ k d l. are (suc k) d (omega (arith, l))))

module _ (row : Row) where
  abbrev shifts : List code.Transition
  shifts = of_kind true row

  abbrev gotos : List code.Transition
  gotos = of_kind false row

  both : (p : Transition → Bool) → filter p (transitions_of row)
      ≡ filter p (map transition_of shifts) ++ filter p (map transition_of gotos)
  both p = ap (filter p) (map-append transition_of shifts gotos)
      ∙ filter-append p (map transition_of shifts) (map transition_of gotos)

  -- those of a kind alone are what the row has of it
  pub kind_alone : (kind : Bool) → filter (is_of kind) (transitions_of row) ≡ map transition_of (of_kind kind row)
  kind_alone true = both is_shift
      ∙ ap (λ us. us ++ filter is_shift (map transition_of gotos)) (alike is_shift true shifts row.over_terminals)
      ∙ ap (λ us. map transition_of shifts ++ us) (alike is_shift false gotos row.over_nonterminals)
      ∙ append-nil (map transition_of shifts)
  kind_alone false = both is_goto
      ∙ ap (λ us. us ++ filter is_goto (map transition_of gotos))
      (alike is_goto false shifts (λ k d l. ap not (row.over_terminals k d l)))
      ∙ alike is_goto true gotos (λ k d l. ap not (row.over_nonterminals k d l))

-- they say where symbols of the kind lead
pub kind_leads : (kind : Bool) (X : Symbol) → is_terminal X ≡ kind → (ts : List Transition)
    → target_of (filter (is_of kind) ts) X ≡ target_of ts X
kind_leads kind X of [] = refl
kind_leads kind X of (u ∷ ts) = elim (cases_Bool (is_of kind u)) [
  | inl passes ↦ rw passes
      (ap (λ o. if symbol_eq u.symbol X then Some u.target else o) (kind_leads kind X of ts))
  | inr fails ↦ elim (cases_Bool (symbol_eq u.symbol X)) [
    | inl same ↦
        let passes : is_of kind u ≡ true = passes_of kind (ap is_terminal (symbol_same u.symbol X same) ∙ of) in
        absurd (cc)
    | inr other ↦ rw (fails, other) (kind_leads kind X of ts)
  ]
]
  where
    passes_of : (kind : Bool) → is_terminal u.symbol ≡ kind → is_of kind u ≡ true
    passes_of true e = e
    passes_of false e = ap not e

-- so where terminals lead from a state
pub shifts_goto : (M : Lr0Automaton) (s t : ℕ) → s < length M.states
    → target_of (filter is_shift (state_at M s).transitions) (terminal t) ≡ goto_of M s (terminal t)
shifts_goto M s t less = kind_leads true (terminal t) refl (state_at M s).transitions
    ∙ sym (goes_by M s (terminal t) less)

abbrev made : symbol.Symbol → ℕ → code.Transition
made x n = record { symbol = x; target = record { 0 = n } }

-- what the test of transitions tells
tested : (x y : symbol.Symbol) (n m : ℕ) → Decides ((test.eq-value).it (made x n) (made y m)) (made x n ≡ made y m)
tested (Terminal t) (Terminal u) n m = Decides-like _
    (λ p. ap (λ k. made (Terminal (record { 0 = k })) n) p.0 ∙ ap (made (Terminal u)) p.1)
    (λ e. let a : Terminal t ≡ Terminal u = ap (λ x. x.symbol) e in (cc, ap (λ x. x.target.0) e))
    (Decides-and (nat_eq t.0 u.0) (nat_eq n m) (Decides-eqb t.0 u.0) (Decides-eqb n m))
tested (Terminal t) (Nonterminal B) n m = (
  λ e. absurd (cc),
  λ e. absurd (let a : Terminal t ≡ Nonterminal B = ap (λ x. x.symbol) e in cc),
)
tested (Nonterminal A) (Terminal u) n m = (
  λ e. absurd (cc),
  λ e. absurd (let a : Nonterminal A ≡ Terminal u = ap (λ x. x.symbol) e in cc),
)
tested (Nonterminal A) (Nonterminal B) n m = Decides-like _
    (λ p. ap (λ k. made (Nonterminal (record { 0 = k })) n) p.0 ∙ ap (made (Nonterminal B)) p.1)
    (λ e. let a : Nonterminal A ≡ Nonterminal B = ap (λ x. x.symbol) e in (cc, ap (λ x. x.target.0) e))
    (Decides-and (nat_eq A.0 B.0) (nat_eq n m) (Decides-eqb A.0 B.0) (Decides-eqb n m))

-- lists of transitions that pass the test are the same
pub transitions_same : (s t : List code.Transition) (r : Bool) → r ≡ pointwise (test.eq-value).it s t → r ≡ true → s ≡ t
transitions_same s t r is passed
    = (slice_eq-Decides (λ a b. tested a.symbol b.symbol a.target.0 b.target.0) s t r is).0 passed
