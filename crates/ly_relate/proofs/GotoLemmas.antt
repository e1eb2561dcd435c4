-- Nonterminal transitions, numbered state by state.
use Rattle.std.proofs.Common.{◌≡◌, ◌∙◌, ◌⊎◌, inl, inr, ℕ, zero, suc, ◌+◌, ◌<◌, ◌≤◌, List, [], ◌∷◌, ◌++◌}
use Rattle.std.proofs.Common.{map, Option, ◌↔◌, append_assoc, append-nil, slice_index_or, false, rules, Some, None}
use Rattle.std.proofs.Common.{arith, refl, sym, ap, subst, length, slice_get, take, drop, Contains}
use Rattle.std.specs.Prelude.{filter, option_and_then}
use Rattle.std.proofs.lemmas.List.{get_or_append_left, get_or_default, length-append, length-map, map-append, take_more}
use Rattle.std.proofs.lemmas.List.Elements.{Contains-append_cases, Contains-append_left}
use Rattle.std.proofs.lemmas.List.Elements.{Contains-append_right}
use Rattle.std.proofs.lemmas.Bool.{cases_order}
use Rattle.std.proofs.lemmas.Option.{get_or_from_slice_get, slice_get-get_or, slice_get_within}
use Rattle.std.specs.List.{AllPairs}
use Rattle.ly_base.proofs.MemberLemmas.{Contains-none, Contains-one, Contains-first, Contains-later}
use Rattle.ly_base.proofs.MemberLemmas.{Contains-cons_cases}
use Rattle.ly_base.proofs.ListLemmas.{AllPairs-append, AllPairs-head, AllPairs-nil, AllPairs-one, AllPairs-tail}
use Rattle.ly_join.specs.Grammar.{Symbol, nonterminal, symbol_of, terminal}
use Rattle.ly_join.specs.declared.symbol.Symbol.TheVariants.{Terminal}
use Rattle.ly_join.proofs.ListLemmas.{member_at, placed}
use Rattle.ly_lr0.specs.Automaton.{Lr0Automaton, IsLr0Automaton, IsLess, State, Transition, goto_of, state_at}
use Rattle.ly_lr0.specs.Automaton.{is_goto, symbol_eq, target_of}
use Rattle.std.proofs.Math.Seq.{get_or-append_seam}
use Rattle.std.proofs.Math.ListN.{get_or-map}
use Rattle.ly_relate.specs.Values.{goto_from}
use Rattle.ly_relate.specs.declared.gotos.Goto as goto
use Rattle.ly_relate.specs.Private.Gotos.{IsNumbering, Numbering, count_before, goto_over, gotos_from, row_gotos}
use Rattle.ly_lr0.specs.Transitions.{transition_of}
use Rattle.ly_lr0.specs.declared.transition.Transition as code
use Rattle.ly_lr0.proofs.StateLemmas.{target_some, symbol_eq-self}
use Rattle.ly_relate.specs.Related.{AreGotos, Goto}
use Rattle.ly_relate.proofs.LeaveLemmas.{symbol_named}

-- a lesser symbol is another one
less_differs : (X Y : Symbol) → IsLess X Y → symbol_eq X Y ≡ false
less_differs (terminal t) (terminal u) lt = search rules
less_differs (terminal t) (nonterminal B) lt = refl
less_differs (nonterminal A) (terminal u) lt = absurd lt
less_differs (nonterminal A) (nonterminal B) lt = search rules

-- a transition is its symbol and where it leads
pub transition_is : (t : Transition) (X : Symbol) (r : ℕ) → t.symbol ≡ X → t.target ≡ r
    → t ≡ record { symbol = X; target = r }
transition_is t X r a b =
    let at : Symbol → ℕ → Transition = λ Y n. record { symbol = Y; target = n } in
    ap (λ Y. at Y t.target) a ∙ ap (at X) b

-- and so is one over a nonterminal
pub goto_is : (x y : Goto) → x.from ≡ y.from → x.symbol ≡ y.symbol → x.target ≡ y.target → x ≡ y
goto_is x y a b c =
    let at : ℕ → ℕ → ℕ → Goto = λ p A r. record { from = p; symbol = A; target = r } in
    ap (λ p. at p x.symbol x.target) a ∙ ap (λ A. at y.from A x.target) b ∙ ap (at y.from y.symbol) c

-- where symbols rise, each transition says where its symbol leads
pub has_target : (ts : List Transition) (t : Transition) → AllPairs (λ t u. IsLess t.symbol u.symbol) ts → Contains ts t
    → target_of ts t.symbol ≡ Some t.target
has_target [] t ordered is = Contains-none t is
has_target (u ∷ ts) t ordered is = elim (Contains-cons_cases u ts t is) [
  | inl e ↦ subst (λ v. target_of (u ∷ ts) v.symbol ≡ Some v.target) e (rw (symbol_eq-self u.symbol) refl)
  | inr later ↦
      rw (less_differs u.symbol t.symbol (AllPairs-head (λ t u. IsLess t.symbol u.symbol) u t ts ordered later))
      (has_target ts t (AllPairs-tail (λ t u. IsLess t.symbol u.symbol) u ts ordered) later)
]

-- a transition over a nonterminal is the state's
over_member : (s : ℕ) (X : Symbol) (r : ℕ) (x : Goto) → Contains (goto_over s X r) x
    → (x.from ≡ s) × (X ≡ nonterminal x.symbol) × (r ≡ x.target)
over_member s (terminal t) r x is = Contains-none x is
over_member s (nonterminal A) r x is =
    let e = Contains-one (record { from = s; symbol = A; target = r }) x is in
    (ap (λ y. y.from) (sym e), ap (λ y. nonterminal y.symbol) e, ap (λ y. y.target) e)

-- those of a row are the state's, and are among its transitions
pub row_member : (s : ℕ) (ts : List Transition) (x : Goto) → Contains (row_gotos s ts) x
    → (x.from ≡ s) × Contains ts (record { symbol = nonterminal x.symbol; target = x.target })
row_member s [] x is = Contains-none x is
row_member s (t ∷ ts) x is = elim (Contains-append_cases (goto_over s t.symbol t.target) (row_gotos s ts) x is) [
  | inl here ↦
      let e = over_member s t.symbol t.target x here in
      (e.0, subst (Contains (t ∷ ts)) (transition_is t (nonterminal x.symbol) x.target e.1 e.2) (Contains-first t ts))
  | inr later ↦
      let there = row_member s ts x later in
      (there.0, Contains-later t ts (record { symbol = nonterminal x.symbol; target = x.target }) there.1)
]

-- and each of its transitions over a nonterminal is there
pub row_has : (s : ℕ) (ts : List Transition) (A r : ℕ) → Contains ts (record { symbol = nonterminal A; target = r })
    → Contains (row_gotos s ts) (record { from = s; symbol = A; target = r })
row_has s [] A r is = Contains-none (record { symbol = nonterminal A; target = r }) is
row_has s (t ∷ ts) A r is =
    let x : Goto = record { from = s; symbol = A; target = r } in
    elim (Contains-cons_cases t ts (record { symbol = nonterminal A; target = r }) is) [
      | inl e ↦ subst (λ u. Contains (goto_over s u.symbol u.target ++ row_gotos s ts) x) (sym e)
          (Contains-first x (row_gotos s ts))
      | inr later ↦ Contains-append_right (goto_over s t.symbol t.target) (row_gotos s ts) x (row_has s ts A r later)
    ]

-- A state of a list, counted from a number, has the transition.
pub record IsOfState (k : ℕ) (states : List State) (x : Goto) : Type 0 where
  pub place : ℕ
  pub state : State
  pub is : slice_get states place ≡ Some state
  pub from : x.from ≡ k + place
  pub has : Contains state.transitions (record { symbol = nonterminal x.symbol; target = x.target })

pub from_member : (k : ℕ) (states : List State) (x : Goto) → Contains (gotos_from k states) x → IsOfState k states x
from_member k [] x is = Contains-none x is
from_member k (q ∷ states) x is = elim (Contains-append_cases (row_gotos k q.transitions)
    (gotos_from (suc k) states) x is) [
      | inl here ↦
          let there = row_member k q.transitions x here in
          record { place = 0; state = q; is = refl; from = (let e = there.0 in omega (arith, e)); has = there.1 }
      | inr later ↦
          let there = from_member (suc k) states x later in
          record {
            place = suc there.place;
            state = there.state;
            is = there.is;
            from = (let e = there.from in omega (arith, e));
            has = there.has;
          }
    ]

pub from_has : (k : ℕ) (states : List State) (n : ℕ) (q : State) (A r : ℕ) → slice_get states n ≡ Some q
    → Contains q.transitions (record { symbol = nonterminal A; target = r })
    → Contains (gotos_from k states) (record { from = k + n; symbol = A; target = r })
from_has k [] n q A r is has = absurd (cc)
from_has k (p ∷ states) zero q A r is has =
    let same : p ≡ q = cc in
    let e : k ≡ k + 0 = omega arith in
    let x : Goto = record { from = k + 0; symbol = A; target = r } in
    Contains-append_left (row_gotos k p.transitions) (gotos_from (suc k) states) x
    (subst (λ m. Contains (row_gotos k p.transitions) (record { from = m; symbol = A; target = r })) e
    (row_has k p.transitions A r (subst (λ p. Contains p.transitions (record { symbol = nonterminal A; target = r }))
    (sym same) has)))
from_has k (p ∷ states) (suc n) q A r is has =
    let e : suc k + n ≡ k + suc n = omega arith in
    Contains-append_right (row_gotos k p.transitions) (gotos_from (suc k) states)
    (record { from = k + suc n; symbol = A; target = r })
    (subst (λ m. Contains (gotos_from (suc k) states) (record { from = m; symbol = A; target = r })) e
    (from_has (suc k) states n q A r is has))

-- transitions in the order of their states and symbols
abbrev pub GotoIsLess : Goto → Goto → Type 0
GotoIsLess x y = (x.from < y.from) ⊎ ((x.from ≡ y.from) × (x.symbol < y.symbol))

over_pairs : (s : ℕ) (X : Symbol) (r : ℕ) → AllPairs GotoIsLess (goto_over s X r)
over_pairs s (terminal t) r = AllPairs-nil GotoIsLess
over_pairs s (nonterminal A) r = AllPairs-one GotoIsLess (record { from = s; symbol = A; target = r })

-- they rise in a row
row_pairs : (s : ℕ) (ts : List Transition) → AllPairs (λ t u. IsLess t.symbol u.symbol) ts
    → AllPairs GotoIsLess (row_gotos s ts)
row_pairs s [] ordered = AllPairs-nil GotoIsLess
row_pairs s (t ∷ ts) ordered = AllPairs-append GotoIsLess (goto_over s t.symbol t.target) (row_gotos s ts)
    (over_pairs s t.symbol t.target) (row_pairs s ts (AllPairs-tail (λ t u. IsLess t.symbol u.symbol) t ts ordered))
    (λ x y here later.
    let a = over_member s t.symbol t.target x here in
    let b = row_member s ts y later in
    let less = AllPairs-head (λ t u. IsLess t.symbol u.symbol) t
    (record { symbol = nonterminal y.symbol; target = y.target }) ts ordered b.1 in
    inr (a.0 ∙ sym b.0, subst (λ X. IsLess X (nonterminal y.symbol)) a.1 less))

-- the transitions of each state are in the order of their symbols
abbrev pub AreOrdered : List State → Type 0
AreOrdered states = (n : ℕ) (q : State) → slice_get states n ≡ Some q
    → AllPairs (λ t u. IsLess t.symbol u.symbol) q.transitions

-- and in all states
from_pairs : (k : ℕ) (states : List State) → AreOrdered states → AllPairs GotoIsLess (gotos_from k states)
from_pairs k [] ordered = AllPairs-nil GotoIsLess
from_pairs k (q ∷ states) ordered = AllPairs-append GotoIsLess (row_gotos k q.transitions) (gotos_from (suc k) states)
    (row_pairs k q.transitions (ordered 0 q refl)) (from_pairs (suc k) states (λ n. ordered (suc n)))
    (λ x y here later.
    let a = (row_member k q.transitions x here).0 in
    let b = (from_member (suc k) states y later).from in
    inl (omega (arith, a, b)))

-- what stands twice in a rising list stands at one place
once_in : (xs : List Goto) (n m : ℕ) (x : Goto) → AllPairs GotoIsLess xs → slice_get xs n ≡ Some x
    → slice_get xs m ≡ Some x → n ≡ m
once_in xs n m x pairs a b = at (cases_order n m) where
  apart : (i j : ℕ) → i < j → slice_get xs i ≡ Some x → slice_get xs j ≡ Some x → ⊥
  apart i j lt a b =
      let less = pairs i j x lt (slice_get_within xs j x b) in
      let at_i = get_or_from_slice_get xs i x x a in
      let at_j = get_or_from_slice_get xs j x x b in
      elim (subst (λ y. GotoIsLess y x) at_i (subst (GotoIsLess (slice_index_or xs i x)) at_j less)) [
        | inl lt ↦ omega (arith, lt)
        | inr both ↦ (let lt = both.1 in omega (arith, lt))
      ]

  at : (n ≡ m) ⊎ ((n < m) ⊎ (m < n)) → n ≡ m
  at (inl e) = e
  at (inr (inl lt)) = absurd (apart n m lt a b)
  at (inr (inr lt)) = absurd (apart m n lt b a)

-- THE NUMBERING

-- a list around what stands at a place of it
pub split_at : {X : Type 0} (xs : List X) (n : ℕ) (x : X) → slice_get xs n ≡ Some x
    → (xs ≡ take n xs ++ x ∷ drop (suc n) xs) × (take (suc n) xs ≡ take n xs ++ x ∷ []) × (length (take n xs) ≡ n)
split_at [] n x is = absurd (cc)
split_at (y ∷ xs) zero x is = let e : y ≡ x = cc in (ap (λ z. z ∷ xs) e, ap (λ z. z ∷ []) e, refl)
split_at (y ∷ xs) (suc n) x is =
    let i = split_at xs n x is in
    (ap (λ w. y ∷ w) i.0, ap (λ w. y ∷ w) i.1, ap suc i.2)

-- a list in three parts: what stands at a place is in one of them
three_parts : {X : Type 0} (xs ys zs : List X) (n : ℕ) (x : X) → slice_get (xs ++ (ys ++ zs)) n ≡ Some x
    → ((n < length xs) × Contains xs x) ⊎ (((length xs ≤ n) × (n < length xs + length ys) × Contains ys x)
    ⊎ ((length xs + length ys ≤ n) × Contains zs x))
three_parts [] [] zs n x is = inr (inr (omega arith, member_at zs n x is))
three_parts [] (y ∷ ys) zs zero x is = let e : y ≡ x = cc in
    inr (inl (omega arith, omega arith, subst (Contains (y ∷ ys)) e (Contains-first y ys)))
three_parts [] (y ∷ ys) zs (suc n) x is = elim (three_parts [] ys zs n x is) [
  | inl here ↦ absurd (omega (arith, here.0))
  | inr (inl here) ↦ inr (inl (omega arith, (let lt = here.1 in omega (arith, lt)), Contains-later y ys x here.2))
  | inr (inr here) ↦ inr (inr ((let le = here.0 in omega (arith, le)), here.1))
]
three_parts (y ∷ xs) ys zs zero x is = let e : y ≡ x = cc in
    inl (omega arith, subst (Contains (y ∷ xs)) e (Contains-first y xs))
three_parts (y ∷ xs) ys zs (suc n) x is = elim (three_parts xs ys zs n x is) [
  | inl here ↦ inl ((let lt = here.0 in omega (arith, lt)), Contains-later y xs x here.1)
  | inr (inl here) ↦ inr (inl ((let le = here.0 in omega (arith, le)), (let lt = here.1 in omega (arith, lt)), here.2))
  | inr (inr here) ↦ inr (inr ((let le = here.0 in omega (arith, le)), here.1))
]

-- transitions of states, in two parts
from-append : (k : ℕ) (xs ys : List State) → gotos_from k (xs ++ ys) ≡ gotos_from k xs ++ gotos_from (k + length xs) ys
from-append k [] ys = ap (λ n. gotos_from n ys) (let e : k ≡ k + 0 = omega arith in e)
from-append k (q ∷ xs) ys =
    ap (λ w. row_gotos k q.transitions ++ w) (from-append (suc k) xs ys
    ∙ ap (λ n. gotos_from (suc k) xs ++ gotos_from n ys)
    (let e : suc k + length xs ≡ k + length (q ∷ xs) = omega arith in e))
    ∙ sym (append_assoc (row_gotos k q.transitions) (gotos_from (suc k) xs) (gotos_from (k + length (q ∷ xs)) ys))

module _ (M : Lr0Automaton) (s : ℕ) (q : State) (is : slice_get M.states s ≡ Some q) where
  abbrev pub before : List Goto
  before = gotos_from 0 (take s M.states)

  abbrev pub row : List Goto
  row = row_gotos s q.transitions

  abbrev pub behind : List Goto
  behind = gotos_from (suc s) (drop (suc s) M.states)

  -- the transitions of the states before one, its own, and those of the states behind it
  pub around : gotos_from 0 M.states ≡ before ++ (row ++ behind)
  around =
      let split = split_at M.states s q is in
      ap (gotos_from 0) split.0 ∙ from-append 0 (take s M.states) (q ∷ drop (suc s) M.states)
      ∙ ap (λ n. before ++ gotos_from n (q ∷ drop (suc s) M.states)) (let e = split.2 in
      let sum : 0 + length (take s M.states) ≡ s = omega (arith, e) in sum)

  pub count_more : count_before M (suc s) ≡ length before + length row
  count_more =
      let split = split_at M.states s q is in
      ap (λ qs. length (gotos_from 0 qs)) split.1
      ∙ ap length (from-append 0 (take s M.states) (q ∷ []))
      ∙ length-append before (gotos_from (0 + length (take s M.states)) (q ∷ []))
      ∙ ap (λ n. length before + length (gotos_from n (q ∷ []))) (let e = split.2 in
      let sum : 0 + length (take s M.states) ≡ s = omega (arith, e) in sum)
      ∙ ap (λ n. length before + n) (ap length (append-nil row))

  -- a transition is the state's where its number is among theirs
  pub leaving_these : (n : ℕ) (x : Goto) → slice_get (gotos_from 0 M.states) n ≡ Some x
      → (x.from ≡ s) ↔ ((count_before M s ≤ n) × (n < count_before M (suc s)))
  leaving_these n x at = parts (three_parts before row behind n x (subst (λ w. slice_get w n ≡ Some x) around at)) where
    early : Contains before x → x.from < s
    early has =
        let of = from_member 0 (take s M.states) x has in
        let lt = slice_get_within (take s M.states) of.place of.state of.is in
        let count = (split_at M.states s q is).2 in
        let from = of.from in
        omega (arith, lt, count, from)

    late : Contains behind x → s < x.from
    late has =
        let from = (from_member (suc s) (drop (suc s) M.states) x has).from in
        omega (arith, from)

    parts : ((n < length before) × Contains before x) ⊎ (((length before ≤ n) × (n < length before + length row)
        × Contains row x) ⊎ ((length before + length row ≤ n) × Contains behind x))
        → (x.from ≡ s) ↔ ((count_before M s ≤ n) × (n < count_before M (suc s)))
    parts (inl here) =
        let lt = early here.1 in
        let n_lt = here.0 in
        ((λ e. absurd (omega (arith, e, lt))), (λ b. let le = b.0 in absurd (omega (arith, le, n_lt))))
    parts (inr (inl here)) =
        let le = here.0 in
        let lt = here.1 in
        let more = count_more in
        ((λ e. (le, (omega (arith, lt, more)))), (λ b. (row_member s q.transitions x here.2).0))
    parts (inr (inr here)) =
        let lt = late here.1 in
        let le = here.0 in
        let more = count_more in
        ((λ e. absurd (omega (arith, e, lt))), (λ b. let less = b.1 in absurd (omega (arith, le, more, less))))

-- the states before one have no more transitions than those before the next, and all have
pub counts_rise : (M : Lr0Automaton) (s : ℕ) (q : State) → slice_get M.states s ≡ Some q
    → (count_before M s ≤ count_before M (suc s)) × (count_before M (suc s) ≤ length (gotos_from 0 M.states))
counts_rise M s q is =
    let more = count_more M s q is in
    let all = ap length (around M s q is) ∙ length-append (before M s q is) (row M s q is ++ behind M s q is)
    ∙ ap (λ n. length (before M s q is) + n) (length-append (row M s q is) (behind M s q is)) in
    (omega (arith, more), omega (arith, more, all))

-- each state's transitions are ordered
pub are_ordered : (M : Lr0Automaton) → IsLr0Automaton M → AreOrdered M.states
are_ordered M is n q at = (is.each n q at).ordered

-- where a state leads
pub goto_at : (M : Lr0Automaton) (s : ℕ) (q : State) (X : Symbol) → slice_get M.states s ≡ Some q
    → goto_of M s X ≡ target_of q.transitions X
goto_at M s q X at = rw at refl

-- what leads somewhere is a state
pub leads_from : (M : Lr0Automaton) (s : ℕ) (X : Symbol) (r : ℕ) → goto_of M s X ≡ Some r
    → (q : State) × (slice_get M.states s ≡ Some q) × (target_of q.transitions X ≡ Some r)
leads_from M s X r e = at (slice_get M.states s) refl e where
  at : (o : Option State) → slice_get M.states s ≡ o → option_and_then (λ q. target_of q.transitions X) o ≡ Some r
      → (q : State) × (slice_get M.states s ≡ Some q) × (target_of q.transitions X ≡ Some r)
  at None here e = absurd (cc)
  at (Some q) here e = (q, here, e)

-- the numbered transitions are the automaton's, each once
pub are_gotos : (M : Lr0Automaton) → IsLr0Automaton M → AreGotos M (gotos_from 0 M.states)
are_gotos M is = record { are = are; all = all; once = λ n m x. once_in (gotos_from 0 M.states) n m x pairs } where
  pairs : AllPairs GotoIsLess (gotos_from 0 M.states)
  pairs = from_pairs 0 M.states (are_ordered M is)

  are : (n : ℕ) (x : Goto) → slice_get (gotos_from 0 M.states) n ≡ Some x
      → goto_of M x.from (nonterminal x.symbol) ≡ Some x.target
  are n x at =
      let of = from_member 0 M.states x (member_at (gotos_from 0 M.states) n x at) in
      let from : x.from ≡ of.place = (let e = of.from in omega (arith, e)) in
      ap (λ k. goto_of M k (nonterminal x.symbol)) from ∙ goto_at M of.place of.state (nonterminal x.symbol) of.is
      ∙ has_target of.state.transitions (record { symbol = nonterminal x.symbol; target = x.target })
      (are_ordered M is of.place of.state of.is) of.has

  all : (p A r : ℕ) → goto_of M p (nonterminal A) ≡ Some r
      → (n : ℕ) × (slice_get (gotos_from 0 M.states) n ≡ Some (record { from = p; symbol = A; target = r }))
  all p A r e =
      let of = leads_from M p (nonterminal A) r e in
      placed (gotos_from 0 M.states) (record { from = p; symbol = A; target = r })
      (subst (λ k. Contains (gotos_from 0 M.states) (record { from = k; symbol = A; target = r }))
      (let sum : 0 + p ≡ p = omega arith in sum)
      (from_has 0 M.states p of.0 A r of.1 (target_some of.0.transitions (nonterminal A) r of.2)))

-- a transition leads to a state, from one
pub goto_states : (M : Lr0Automaton) → IsLr0Automaton M → (n : ℕ) (x : Goto)
    → slice_get (gotos_from 0 M.states) n ≡ Some x
    → (x.from < length M.states) × (x.target < length M.states)
goto_states M is n x at =
    let of = from_member 0 M.states x (member_at (gotos_from 0 M.states) n x at) in
    let lt = slice_get_within M.states of.place of.state of.is in
    let from = of.from in (
      omega (arith, lt, from),
      (is.each of.place of.state of.is).within
          (record { symbol = nonterminal x.symbol; target = x.target }) of.has,
    )

-- what a numbering has: transitions between states, over nonterminals that rules name
pub are_named : (M : Lr0Automaton) → IsLr0Automaton M → (n : ℕ) (x : Goto)
    → slice_get (gotos_from 0 M.states) n ≡ Some x
    → x.symbol ≤ M.grammar.accept
are_named M is n x at = symbol_named M.grammar (goto_of M) is.augmented is.cores ((are_gotos M is).are n x at)

-- what one more transition adds to a row
pub row_more : (s : ℕ) (ts : List Transition) (u : Transition) → row_gotos s (ts ++ u ∷ [])
    ≡ row_gotos s ts ++ goto_over s u.symbol u.target
row_more s [] u = append-nil (goto_over s u.symbol u.target)
row_more s (t ∷ ts) u = ap (λ w. goto_over s t.symbol t.target ++ w) (row_more s ts u)
    ∙ sym (append_assoc (goto_over s t.symbol t.target) (row_gotos s ts) (goto_over s u.symbol u.target))

-- a row's transitions over nonterminals say all of it
pub row_alone : (s : ℕ) (ts : List Transition) → row_gotos s (filter is_goto ts) ≡ row_gotos s ts
row_alone s [] = refl
row_alone s (u ∷ ts) = one s u ts u.symbol refl (row_alone s ts)
  where
    one : (s : ℕ) (u : Transition) (ts : List Transition) (X : Symbol) → u.symbol ≡ X
        → row_gotos s (filter is_goto ts) ≡ row_gotos s ts
        → row_gotos s (filter is_goto (u ∷ ts)) ≡ row_gotos s (u ∷ ts)
    one s u ts (terminal t) is rest = rw is rest
    one s u ts (nonterminal A) is rest = rw is
        (ap (λ xs. record { from = s; symbol = A; target = u.target } ∷ xs) rest)

-- where none stands
abbrev pub nowhere : code.Transition
nowhere = record { symbol = Terminal (record { 0 = 0 }); target = record { 0 = 0 } }

-- what the next transition of a list adds to those before it
pub shown_more : (ts : List code.Transition) (i : ℕ) → i < length ts
    → map transition_of (take (i + 1) ts) ≡ map transition_of (take i ts) ++ transition_of
    (slice_index_or ts i nowhere) ∷ []
shown_more ts i lt =
    ap (map transition_of) (take_more ts i nowhere lt)
    ∙ map-append transition_of (take i ts) (slice_index_or ts i nowhere ∷ [])

-- the same, of the transitions over nonterminals
pub row_step : (s : ℕ) (ts : List code.Transition) (i : ℕ) → i < length ts
    → row_gotos s (map transition_of (take (i + 1) ts)) ≡ row_gotos s (map transition_of (take i ts))
    ++ goto_over s (symbol_of (slice_index_or ts i nowhere).symbol) (slice_index_or ts i nowhere).target.0
row_step s ts i lt = ap (row_gotos s) (shown_more ts i lt)
    ∙ row_more s (map transition_of (take i ts)) (transition_of (slice_index_or ts i nowhere))

-- a number of a list of counts is how many transitions come before a state
pub counted : (n : Numbering) (s found : ℕ) → IsNumbering n → s ≤ length n.automaton.states
    → found ≡ slice_index_or n.first s found → found ≡ count_before n.automaton s
counted n s found is le e =
    let long = is.long in
    e ∙ get_or_default n.first s found 0 (omega (arith, long, le)) ∙ is.first s le

-- the counts before a state and behind it
pub record IsRange (n : Numbering) (s start end : ℕ) : Type 0 where
  pub within : end ≤ length n.gotos
  pub ordered : start ≤ end
  pub these : (k : ℕ) (x : Goto) → slice_get n.gotos k ≡ Some x → (x.from ≡ s) ↔ ((start ≤ k) × (k < end))

pub range_of : (n : Numbering) (s start end : ℕ) → IsNumbering n → s < length n.automaton.states
    → start ≡ slice_index_or n.first s start → end ≡ slice_index_or n.first (s + 1) end → IsRange n s start end
range_of n s start end law lt at_start at_end =
    let M = n.automaton in
    let q = slice_get-get_or M.states s nothing lt in
    let a : start ≡ count_before M s = counted n s start law (omega (arith, lt)) at_start in
    let b : end ≡ count_before M (suc s) = counted n (s + 1) end law (omega (arith, lt)) at_end
    ∙ ap (count_before M) (let e : s + 1 ≡ suc s = omega arith in e) in
    let rise = counts_rise M s (slice_index_or M.states s nothing) q in
    let all = ap length law.gotos in
    let low = rise.0 in
    let high = rise.1 in
    record {
      within = omega (arith, b, all, high);
      ordered = omega (arith, a, b, low);
      these = λ k x at.
          let is = leaving_these M s (slice_index_or M.states s nothing) q k x
          (subst (λ w. slice_get w k ≡ Some x) law.gotos at) in (
            (λ e. let both = is.0 e in let le = both.0 in let less = both.1 in
                (omega (arith, a, le), omega (arith, b, less))),
            (λ both. let le = both.0 in let less = both.1 in is.1 (omega (arith, a, le), omega (arith, b, less))),
          );
    }
  where
    nothing : State
    nothing = record { prefix = []; transitions = []; complete = [] }

-- the transitions of one more state
pub gotos_more : (M : Lr0Automaton) (k : ℕ) → k < length M.states
    → gotos_from 0 (take (k + 1) M.states) ≡ gotos_from 0 (take k M.states) ++ row_gotos k (state_at M k).transitions
gotos_more M k lt =
    let q = state_at M k in
    let count =
    (split_at M.states k q (slice_get-get_or M.states k
    (record { prefix = []; transitions = []; complete = [] }) lt)).2 in
    ap (gotos_from 0) (take_more M.states k (record { prefix = []; transitions = []; complete = [] }) lt)
    ∙ from-append 0 (take k M.states) (q ∷ [])
    ∙ ap (λ n. gotos_from 0 (take k M.states) ++ gotos_from n (q ∷ []))
    (let e : 0 + length (take k M.states) ≡ k = omega (arith, count) in e)
    ∙ ap (λ w. gotos_from 0 (take k M.states) ++ w) (append-nil (row_gotos k q.transitions))

-- one more count of transitions
pub firsts_more : (M : Lr0Automaton) (k : ℕ) (items new : List ℕ) (n : ℕ) → new ≡ items ++ n ∷ [] → length items ≡ k
    → n ≡ count_before M k → ((s : ℕ) → s < k → slice_index_or items s 0 ≡ count_before M s)
    → (s : ℕ) → s < k + 1 → slice_index_or new s 0 ≡ count_before M s
firsts_more M k items new n e long count known s lt = at (cases_order s k) where
  at : (s ≡ k) ⊎ ((s < k) ⊎ (k < s)) → slice_index_or new s 0 ≡ count_before M s
  at (inl same) = ap (λ w. slice_index_or w s 0) e ∙ ap (λ m. slice_index_or (items ++ n ∷ []) m 0) (same ∙ sym long)
      ∙ get_or-append_seam items n [] 0 ∙ count ∙ ap (count_before M) (sym same)
  at (inr (inl less)) = ap (λ w. slice_index_or w s 0) e
      ∙ get_or_append_left items (n ∷ []) 0 s (omega (arith, less, long)) ∙ known s less
  at (inr (inr more)) = absurd (omega (arith, more, lt))

-- a transition that is read, as contracts see it
pub seen_goto : (gotos : List Goto) (items : List goto.Goto) (k : ℕ) (g : goto.Goto) → map goto_from items ≡ gotos
    → k < length items → g ≡ slice_index_or items k g → slice_get gotos k ≡ Some (goto_from g)
seen_goto gotos items k g e lt is =
    subst (λ w. slice_get w k ≡ Some (goto_from g)) e
    (slice_get-get_or (map goto_from items) k (goto_from g) (subst (λ m. k < m) (sym (length-map items goto_from)) lt)
    ∙ ap (λ x. Some x) (get_or-map goto_from items k g ∙ ap goto_from (sym is)))

-- what a numbering has
pub numbered_states : (n : Numbering) → IsNumbering n → (k : ℕ) (x : Goto) → slice_get n.gotos k ≡ Some x
    → (x.from < length n.automaton.states) × (x.target < length n.automaton.states)
numbered_states n law k x at = goto_states n.automaton law.lawful k x (subst (λ w. slice_get w k ≡ Some x) law.gotos at)

pub numbered_are : (n : Numbering) → IsNumbering n → AreGotos n.automaton n.gotos
numbered_are n law = subst (AreGotos n.automaton) (sym law.gotos) (are_gotos n.automaton law.lawful)

pub numbered_named : (n : Numbering) → IsNumbering n → (k : ℕ) (x : Goto) → slice_get n.gotos k ≡ Some x
    → x.symbol ≤ n.automaton.grammar.accept
numbered_named n law k x at = are_named n.automaton law.lawful k x (subst (λ w. slice_get w k ≡ Some x) law.gotos at)

-- transitions of one state rise with their symbols
pub numbered_rising : (n : Numbering) → IsNumbering n → (i j : ℕ) (x y : Goto) → i < j → slice_get n.gotos i ≡ Some x
    → slice_get n.gotos j ≡ Some y → x.from ≡ y.from → x.symbol < y.symbol
numbered_rising n law i j x y lt at_x at_y from =
    let listed : gotos_from 0 n.automaton.states ≡ n.gotos = sym law.gotos in
    let pairs = subst (AllPairs GotoIsLess) listed
    (from_pairs 0 n.automaton.states (are_ordered n.automaton law.lawful)) in
    let less = pairs i j x lt (slice_get_within n.gotos j y at_y) in
    let here = get_or_from_slice_get n.gotos i x x at_x in
    let there = get_or_from_slice_get n.gotos j y x at_y in
    elim (subst (λ z. GotoIsLess z y) here (subst (GotoIsLess (slice_index_or n.gotos i x)) there less)) [
      | inl before ↦ absurd (omega (arith, before, from))
      | inr both ↦ both.1
    ]

-- What is before one of rising transitions is less, and what is behind it is greater.
pub less_to : (gotos : List Goto) (start end k A : ℕ) (y : Goto)
    → ((n m : ℕ) (x z : Goto) → start ≤ n → n < m → m < end → slice_get gotos n ≡ Some x → slice_get gotos m ≡ Some z
    → x.symbol < z.symbol) → k < end → slice_get gotos k ≡ Some y → y.symbol < A → (n : ℕ) (x : Goto) → start ≤ n
    → n < k + 1 → slice_get gotos n ≡ Some x → x.symbol < A
less_to gotos start end k A y rise lt at less n x le before is = cases (cases_order n k) where
  cases : (n ≡ k) ⊎ ((n < k) ⊎ (k < n)) → x.symbol < A
  cases (inl same) =
      let one : Some x ≡ Some y = sym is ∙ (ap (slice_get gotos) same ∙ at) in
      let e : x ≡ y = cc in
      subst (λ z. z.symbol < A) (sym e) less
  cases (inr (inl early)) = let first = rise n k x y le early lt is at in omega (arith, first, less)
  cases (inr (inr late)) = absurd (omega (arith, late, before))

pub not_less_from : (gotos : List Goto) (start end k A : ℕ) (y : Goto)
    → ((n m : ℕ) (x z : Goto) → start ≤ n → n < m → m < end → slice_get gotos n ≡ Some x → slice_get gotos m ≡ Some z
    → x.symbol < z.symbol) → start ≤ k → slice_get gotos k ≡ Some y → A ≤ y.symbol → (n : ℕ) (x : Goto) → k ≤ n
    → n < end → slice_get gotos n ≡ Some x → A ≤ x.symbol
not_less_from gotos start end k A y rise le at least n x behind lt is = cases (cases_order n k) where
  cases : (n ≡ k) ⊎ ((n < k) ⊎ (k < n)) → A ≤ x.symbol
  cases (inl same) =
      let one : Some x ≡ Some y = sym is ∙ (ap (slice_get gotos) same ∙ at) in
      let e : x ≡ y = cc in
      subst (λ z. A ≤ z.symbol) (sym e) least
  cases (inr (inl early)) = absurd (omega (arith, early, behind))
  cases (inr (inr late)) = let up = rise k n y x le late lt at is in omega (arith, up, least)

-- the transition of a number, where it is read from what a numbering keeps
pub at_number : (n : Numbering) (items : List goto.Goto) (k end : ℕ) (g : goto.Goto) → map goto_from items ≡ n.gotos
    → end ≤ length n.gotos → k < end → g ≡ slice_index_or items k g → slice_get n.gotos k ≡ Some (goto_from g)
at_number n items k end g shown within lt is =
    let m = length-map items goto_from in
    let long = ap length shown in
    seen_goto n.gotos items k g shown (omega (arith, m, long, lt, within)) is
