-- A parser's stack as it is kept, and as contracts see it.
use Rattle.std.proofs.Common.{◌≡◌, ℕ, zero, suc, ◌<◌, ◌+◌, ◌-◌, ◌*◌, List, [], ◌∷◌, ◌++◌, length, drop, take, map}
use Rattle.std.proofs.Common.{reverse, refl, sym, ap, ◌∙◌, subst, arith, length-drop}
use Rattle.std.proofs.Math.Seq.{drop-append_seam, take-append_seam}
use Rattle.std.proofs.lemmas.List.{length-map, length-reverse, map-append, reverse-append, take-append-drop}
use Rattle.std.proofs.lemmas.List.Elements.{All-push, All-take}
use Rattle.std.specs.Prelude.{All, Bool, IsSome, Some, slice_get, unwrap_or}
use Rattle.ly_base.proofs.ListLemmas.{All-last}
use Rattle.ly_pack.specs.Machine.{Machine, action_of, shift, states_of, IsMachine}
use Rattle.ly_pack.specs.Steady.{IsSteady, IsTableEdge, by_shift}
use Rattle.ly_pack.specs.SteadyLaws.{IsStack, bottom, on_edge}
use Rattle.ly_parse.specs.Feeding.{Level, accept_with, done, settles, states_on, top_of}
use Rattle.ly_parse.specs.Parse.{Parse}
use Rattle.ly_parse.specs.Private.Paying.{IsStackPaid}
use Rattle.ly_parse.specs.Private.Stack.{level_from, parse_from, stack_from, IsParse}
use Rattle.ly_parse.specs.declared.level.Level as code
use Rattle.ly_parse.proofs.FeedingLemmas.{legal}
use Rattle.ly_parse.proofs.PayingLemmas.{leaf_paid, none_paid, paid_drop, paid_kept, top_paid}
use Rattle.ly_tree.proofs.StandLemmas.{known_kept, known_stands, stands_known, stands_unwrapped, term_kept}
use Rattle.ly_tree.specs.Costs.{budget, IsBoundedBySize}
use Rattle.ly_tree.specs.Forest.{term_of, Grown, Keeps, StandsFor}
use Rattle.ly_tree.specs.Term.{Term, leaf, nothing}

pub stack_from-append : (f : Grown) (xs ys : List code.Level)
    → stack_from f (xs ++ ys) ≡ stack_from f ys ++ stack_from f xs
stack_from-append f xs ys = ap (map (level_from f)) (reverse-append xs ys)
    ∙ map-append (level_from f) (reverse ys) (reverse xs)

-- a push where room was made before
pub on_top : (before reserved after : List code.Level) (l : code.Level) → reserved ≡ before
    → after ≡ reserved ++ l ∷ [] → after ≡ before ++ l ∷ []
on_top before reserved after l same pushes = pushes ∙ ap (λ levels. levels ++ l ∷ []) same

-- a level that is pushed is on top
pub stack_from-push : (f : Grown) (levels : List code.Level) (l : code.Level)
    → stack_from f (levels ++ l ∷ []) ≡ level_from f l ∷ stack_from f levels
stack_from-push f levels l = stack_from-append f levels (l ∷ [])

pub length-stack_from : (f : Grown) (levels : List code.Level) → length (stack_from f levels) ≡ length levels
length-stack_from f levels = length-map (reverse levels) (level_from f) ∙ length-reverse levels

-- a stack parts where the list of its levels is cut
parts : (f : Grown) (levels : List code.Level) (n : ℕ)
    → stack_from f levels ≡ stack_from f (drop n levels) ++ stack_from f (take n levels)
parts f levels n = ap (stack_from f) (sym (take-append-drop n levels))
    ∙ stack_from-append f (take n levels) (drop n levels)

height : (f : Grown) (levels : List code.Level) (n : ℕ)
    → length levels - n ≡ length (stack_from f (drop n levels))
height f levels n = sym (length-stack_from f (drop n levels) ∙ length-drop n levels)

-- the levels above so many
pub above : (f : Grown) (levels : List code.Level) (n : ℕ)
    → take (length levels - n) (stack_from f levels) ≡ stack_from f (drop n levels)
above f levels n = ap (λ k. take k (stack_from f levels)) (height f levels n)
    ∙ (ap (take (length (stack_from f (drop n levels)))) (parts f levels n)
    ∙ take-append_seam (stack_from f (drop n levels)) (stack_from f (take n levels)))

-- and those up to them
pub below : (f : Grown) (levels : List code.Level) (n : ℕ)
    → drop (length levels - n) (stack_from f levels) ≡ stack_from f (take n levels)
below f levels n = ap (λ k. drop k (stack_from f levels)) (height f levels n)
    ∙ (ap (drop (length (stack_from f (drop n levels)))) (parts f levels n)
    ∙ drop-append_seam (stack_from f (drop n levels)) (stack_from f (take n levels)))

-- a forest that keeps the terms keeps the stack
pub stack_kept : (f g : Grown) (levels : List code.Level) → Keeps f g → All (λ l. IsSome (term_of f l.term)) levels
    → stack_from g levels ≡ stack_from f levels
stack_kept f g [] k h = refl
stack_kept f g (l ∷ levels) k h = stack_from-append g (l ∷ []) levels
    ∙ (ap (λ s. s ++ level_from g l ∷ []) (stack_kept f g levels k (λ i d lt. h (suc i) d (omega arith)))
    ∙ (ap (λ t. stack_from f levels ++ record { state = l.state.0; term = t } ∷ [])
    (term_kept f g l.term k (h 0 l (omega arith)))
    ∙ sym (stack_from-append f (l ∷ []) levels)))

lower : (m : Machine) (top low : ℕ) (rest : List ℕ) → IsStack m (top ∷ low ∷ rest) → IsStack m (low ∷ rest)
lower m top low rest (on_edge x h) = h

-- the level on top and the state below it are an edge
pub edge_under : (m : Machine) (l : Level) (stack : List Level) → IsStack m (states_on (l ∷ stack))
    → IsTableEdge m (top_of stack) l.state
edge_under m l [] (on_edge x h) = x
edge_under m l (k ∷ stack) (on_edge x h) = x

-- what is left of a stack is one
drops : (m : Machine) (n : ℕ) (stack : List Level) → IsStack m (states_on stack) → IsStack m (states_on (drop n stack))
drops m zero stack h = h
drops m (suc n) [] h = h
drops m (suc n) (l ∷ []) h = drops m n [] (lower m l.state 0 [] h)
drops m (suc n) (l ∷ k ∷ stack) h = drops m n (k ∷ stack) (lower m l.state k.state (states_on stack) h)

edge_on : (m : Machine) (state : ℕ) (stack : List Level) → IsTableEdge m (top_of stack) state
    → IsStack m (states_on stack) → IsStack m (state ∷ states_on stack)
edge_on m state [] e h = on_edge e h
edge_on m state (l ∷ stack) e h = on_edge e h

-- a parse that begins
pub begun : (m : Machine) (f : Grown) → IsMachine m → IsSteady m → IsParse m f []
begun m f machine steady = record {
  machine = machine;
  steady = steady;
  states = λ k d h. absurd (omega arith);
  terms = λ k d h. absurd (omega arith);
  edges = bottom;
  paid = none_paid f;
}

-- in a forest that keeps the terms
pub kept : (m : Machine) (f g : Grown) (levels : List code.Level) → IsParse m f levels → Keeps f g
    → IsParse m g levels
kept m f g levels h k = record {
  machine = h.machine;
  steady = h.steady;
  states = h.states;
  terms = λ i d lt. known_kept f g _ k (h.terms i d lt);
  edges = subst (λ s. IsStack m (states_on s)) (sym (stack_kept f g levels k h.terms)) h.edges;
  paid = subst (IsStackPaid g) (sym (stack_kept f g levels k h.terms))
      (paid_kept f g (stack_from f levels) k h.paid);
}

-- with the levels above so many taken off
pub cut : (m : Machine) (f : Grown) (levels : List code.Level) (n : ℕ) → IsParse m f levels
    → IsParse m f (take n levels)
cut m f levels n h = record {
  machine = h.machine;
  steady = h.steady;
  states = All-take (λ l. l.state.0 < states_of m) n levels h.states;
  terms = All-take (λ l. IsSome (term_of f l.term)) n levels h.terms;
  edges = subst (λ s. IsStack m (states_on s)) (below f levels n)
      (drops m (length levels - n) (stack_from f levels) h.edges);
  paid = subst (IsStackPaid f) (below f levels n)
      (paid_drop f (length levels - n) (stack_from f levels) h.paid);
}

-- with a level more
pub pushed : (m : Machine) (f : Grown) (levels : List code.Level) (l : code.Level) → IsParse m f levels
    → l.state.0 < states_of m → IsSome (term_of f l.term) → IsTableEdge m (top_of (stack_from f levels)) l.state.0
    → IsStackPaid f (level_from f l ∷ stack_from f levels) → IsParse m f (levels ++ l ∷ [])
pushed m f levels l h state term edge paid = record {
  machine = h.machine;
  steady = h.steady;
  states = All-push (λ l. l.state.0 < states_of m) levels l h.states state;
  terms = All-push (λ l. IsSome (term_of f l.term)) levels l h.terms term;
  edges = subst (λ s. IsStack m (states_on s)) (sym (stack_from-push f levels l))
      (edge_on m l.state.0 (stack_from f levels) edge h.edges);
  paid = subst (IsStackPaid f) (sym (stack_from-push f levels l)) paid;
}

-- the level that is on top
last_is : (levels : List code.Level) (l : code.Level) → slice_get levels (length levels - 1) ≡ Some l
    → (front : List code.Level) × (levels ≡ front ++ l ∷ [])
last_is [] l e = absurd cc
last_is (x ∷ []) l e = let same : x ≡ l = cc in ([], ap (λ y. y ∷ []) same)
last_is (x ∷ y ∷ levels) l e =
    let place : length (x ∷ y ∷ levels) - 1 ≡ suc (length (y ∷ levels) - 1) = omega arith in
    under (last_is (y ∷ levels) l (sym (ap (slice_get (x ∷ y ∷ levels)) place) ∙ e))
  where
    under : (front : List code.Level) × (y ∷ levels ≡ front ++ l ∷ [])
        → (front : List code.Level) × (x ∷ y ∷ levels ≡ front ++ l ∷ [])
    under r = (x ∷ r.0, ap (λ w. x ∷ w) r.1)

-- the tables accept with its term
pub accepts : (m : Machine) (f : Grown) (levels : List code.Level) (l : code.Level) (p : Parse) (count : ℕ)
    (over : Bool) → parse_from m f levels count over ≡ p → IsParse m f levels
    → slice_get levels (length levels - 1) ≡ Some l
    → (d : Term) × (accept_with p.stack ≡ settles (done d)) × StandsFor p.forest l.term d
accepts m f levels l p count over view h e =
    let top = last_is levels l e in
    let d = unwrap_or (term_of f l.term) nothing in
    let known = All-last (λ l. IsSome (term_of f l.term)) top.0 l
    (subst (All (λ l. IsSome (term_of f l.term))) top.1 h.terms) in (
      d,
      ap (λ q. accept_with q.stack) (sym view)
          ∙ ap accept_with (ap (stack_from f) top.1 ∙ stack_from-push f top.0 l),
      subst (λ q. StandsFor q.forest l.term d) view (known_stands f l.term known),
    )

-- and the forest pays for it
pub accepted_paid : (m : Machine) (f : Grown) (levels : List code.Level) (l : code.Level) (p : Parse) (count : ℕ)
    (over : Bool) (t : Term) → parse_from m f levels count over ≡ p → IsParse m f levels
    → slice_get levels (length levels - 1) ≡ Some l → StandsFor p.forest l.term t → IsBoundedBySize p.forest t
accepted_paid m f levels l p count over t view h e stands =
    let top = last_is levels l e in
    let paid = subst (IsStackPaid f) (ap (stack_from f) top.1 ∙ stack_from-push f top.0 l) h.paid in
    subst (λ q. IsBoundedBySize q.forest t) view
    (subst (IsBoundedBySize f)
    (stands_unwrapped f l.term t (subst (λ q. StandsFor q.forest l.term t) (sym view) stands))
    (top_paid f (level_from f l) (stack_from f top.0) paid))

-- a shift
pub shifted : (m : Machine) (f g : Grown) (levels : List code.Level) (p : Parse) (count : ℕ) (over : Bool) (t : ℕ)
    (bytes : List ℕ) (l : code.Level) → parse_from m f levels count over ≡ p → IsParse m f levels → Keeps f g
    → action_of p.machine (top_of p.stack) t ≡ shift l.state.0 → StandsFor g l.term (leaf t bytes)
    → ((each byte : ℕ) → budget each byte g ≡ budget each byte f + byte * length bytes)
    → IsParse m g (levels ++ l ∷ [])
shifted m f g levels p count over t bytes l view h k action stands pays =
    let shifts : action_of m (top_of (stack_from f levels)) t ≡ shift l.state.0
    = subst (λ q. action_of q.machine (top_of q.stack) t ≡ shift l.state.0) (sym view) action in
    let same = ap top_of (stack_kept f g levels k h.terms) in
    pushed m g levels l (kept m f g levels h k)
    (legal m (top_of (stack_from f levels)) t (shift l.state.0) h.machine shifts).0
    (stands_known g l.term (leaf t bytes) stands) (by_shift t (ap (λ s. action_of m s t) same ∙ shifts))
    (subst (λ u. IsStackPaid g (record { state = l.state.0; term = u } ∷ stack_from g levels))
    (sym (stands_unwrapped g l.term (leaf t bytes) stands))
    (subst (λ s. IsStackPaid g (record { state = l.state.0; term = leaf t bytes } ∷ s))
    (sym (stack_kept f g levels k h.terms))
    (leaf_paid f g l.state.0 t bytes (stack_from f levels) h.paid pays)))

-- the stack behind it
pub shifted_stack : (m : Machine) (f g : Grown) (levels : List code.Level) (p : Parse) (count : ℕ) (over : Bool)
    (l : code.Level) (d : Term) → parse_from m f levels count over ≡ p → IsParse m f levels → Keeps f g
    → StandsFor g l.term d
    → stack_from g (levels ++ l ∷ []) ≡ record { state = l.state.0; term = d } ∷ p.stack
shifted_stack m f g levels p count over l d view h k stands =
    stack_from-push g levels l
    ∙ (ap (λ t. record { state = l.state.0; term = t } ∷ stack_from g levels) (stands_unwrapped g l.term d stands)
    ∙ ap (λ s. record { state = l.state.0; term = d } ∷ s)
    (stack_kept f g levels k h.terms ∙ ap (λ q. q.stack) view))
