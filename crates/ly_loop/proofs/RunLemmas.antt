-- Stacks that are kept with their tops last, and what a reduction does to them.
use Rattle.std.proofs.Common.{◌≡◌, ℕ, zero, suc, ◌+◌, ◌-◌, ◌<◌, ◌≤◌, List, [], ◌∷◌, ◌++◌, length, take, drop, map}
use Rattle.std.proofs.Common.{Option, Some, None}
use Rattle.std.proofs.Common.{refl, sym, ap, subst, ◌∙◌, arith, slice_get}
use Rattle.std.specs.Prelude.{reverse}
use Rattle.std.proofs.Math.Seq.{drop-append_seam}
use Rattle.std.proofs.lemmas.List.{length-drop, length-map, length-reverse, map-append, map_push, reverse-append}
use Rattle.std.proofs.lemmas.List.{take-append-drop, take_all, take_more}
use Rattle.std.proofs.lemmas.Option.{get_or_from_slice_get, slice_get-get_or, slice_get_within}
use Rattle.ly_base.specs.declared.numbers.StateNo.{StateNo}
use Rattle.ly_base.specs.declared.numbers.RuleNo.{RuleNo}
use Rattle.ly_pack.specs.Machine.{IsTableRule, Machine, TableAction, TableRule}
use Rattle.ly_pack.specs.Machine.{action_of, goto_at, reduce, states_of}
use Rattle.ly_pack.specs.Steady.{EndsWithin, ReducesTo, RunEnd, accepts, action_on, ends, go_to, here, move, onward}
use Rattle.ly_pack.specs.Steady.{perform, push}
use Rattle.ly_pack.specs.Steady.{reads, reduce_by, refuses}
use Rattle.ly_pack.specs.Values.{action_from}
use Rattle.ly_pack.specs.declared.action.TableAction as code
use Rattle.ly_pack.specs.declared.action.TableAction.TheVariants.{Shift, Reduce, Accept, Error}
use Rattle.ly_pack.proofs.Runs.{no_more}
use Rattle.ly_pack.proofs.WithinLemmas.{rule_known}
use Rattle.ly_loop.specs.Private.Run.{AreStates, stack_of}

pub stack_push : (xs : List StateNo) (x : StateNo) → stack_of (xs ++ x ∷ []) ≡ x.0 ∷ stack_of xs
stack_push xs x = ap reverse (map_push (λ s. s.0) xs x) ∙ reverse-append (map (λ s. s.0) xs) (x.0 ∷ [])

pub stack_length : (xs : List StateNo) → length (stack_of xs) ≡ length xs
stack_length xs = length-reverse (map (λ s. s.0) xs) ∙ length-map xs (λ s. s.0)

stack_append : (xs ys : List StateNo) → stack_of (xs ++ ys) ≡ stack_of ys ++ stack_of xs
stack_append xs ys = ap reverse (map-append (λ s. s.0) xs ys)
    ∙ reverse-append (map (λ s. s.0) xs) (map (λ s. s.0) ys)

-- what is left when some states are popped
pub stack_take : (xs : List StateNo) (left n : ℕ) → left + n ≡ length xs
    → stack_of (take left xs) ≡ drop n (stack_of xs)
stack_take xs left n e =
    let upper = stack_of (drop left xs) in
    let lower = stack_of (take left xs) in
    let count : length upper ≡ n = omega (arith, stack_length (drop left xs), length-drop left xs) in
    let whole = ap stack_of (sym (take-append-drop left xs)) ∙ stack_append (take left xs) (drop left xs) in
    sym (ap (drop n) whole ∙ (ap (λ k. drop k (upper ++ lower)) (sym count) ∙ drop-append_seam upper lower))

-- the last state is the top
pub stack_top : (xs : List StateNo) (x : StateNo) → Some x ≡ slice_get xs (length xs - 1)
    → stack_of xs ≡ x.0 ∷ stack_of (take (length xs - 1) xs)
stack_top xs x e =
    let at = length xs - 1 in
    let lt : at < length xs = slice_get_within xs at x (sym e) in
    let last = get_or_from_slice_get xs at x x (sym e) in
    let whole = sym (take_all (at + 1) xs (omega arith)) ∙ (take_more xs at x lt
    ∙ ap (λ y. take at xs ++ y ∷ []) last) in
    ap stack_of whole ∙ stack_push (take at xs) x

-- a stack without a last state is empty
pub stack_none : (xs : List StateNo) → None ≡ slice_get xs (length xs - 1) → stack_of xs ≡ []
stack_none [] e = refl
stack_none (x ∷ xs) e =
    let some = slice_get-get_or (x ∷ xs) (length (x ∷ xs) - 1) x (omega arith) in absurd (cc)

-- the top of known states is one
pub top_known : (m : Machine) (xs : List StateNo) (top : StateNo) → AreStates m xs
    → Some top ≡ slice_get xs (length xs - 1) → top.0 < states_of m
top_known m xs top states last =
    let at = length xs - 1 in
    let is = get_or_from_slice_get xs at top top (sym last) in
    subst (λ (s : StateNo). s.0 < states_of m) is
    (states at top (slice_get_within xs at top (sym last)))

-- the stack behind a body, and the goto above it
pub reduce_to : (m : Machine) (p : ℕ) (r : TableRule) (xs : List StateNo) (left : ℕ) (under : StateNo) (o : Option ℕ)
    → IsTableRule m p r → left + r.body_length ≡ length xs
    → Some under ≡ slice_get (take left xs) (length (take left xs) - 1) → o ≡ goto_at m under.0 r.left
    → perform m (stack_of xs) (reduce p) ≡ push (stack_of (take left xs)) o
reduce_to m p r xs left under o is e last goto =
    let top = stack_top (take left xs) under last in
    let rest = stack_of (take (length (take left xs) - 1) (take left xs)) in
    ap (reduce_by m (stack_of xs)) (rule_known m p r is)
    ∙ (ap (go_to m r.left) (sym (stack_take xs left r.body_length e) ∙ top)
    ∙ (ap (push (under.0 ∷ rest)) (sym goto) ∙ ap (λ w. push w o) (sym top)))

-- a move by what the state on top does
pub move_by : (m : Machine) (t : ℕ) (xs : List StateNo) (top : StateNo) (a : TableAction)
    → Some top ≡ slice_get xs (length xs - 1) → a ≡ action_of m top.0 t
    → move m t (stack_of xs) ≡ perform m (stack_of xs) a
move_by m t xs top a last is =
    ap (perform m (stack_of xs)) (ap (action_on m t) (stack_top xs top last) ∙ sym is)

-- what is no reduction ends the run
pub ends_by : (m : Machine) (stack : List ℕ) (a : code.TableAction) → ((r : RuleNo) → a ≡ Reduce r → ⊥)
    → (e : RunEnd) × (perform m stack (action_from a) ≡ ends e)
ends_by m stack (Shift s) not = (reads s.0, refl)
ends_by m stack (Reduce r) not = absurd (not r refl)
ends_by m stack Accept not = (accepts, refl)
ends_by m stack Error not = (refuses, refl)

-- a run that ends after the reductions that were made
pub ended : (m : Machine) (t : ℕ) (start stack : List ℕ) (n bound : ℕ) → ReducesTo m t start n stack → n ≤ bound
    → (e : RunEnd) × (move m t stack ≡ ends e) → EndsWithin m t start bound
ended m t start stack n bound led le (e, stops) = record {
  count = n;
  last = stack;
  ending = e;
  leads = led;
  stops = stops;
  within = le;
}

-- a run that has made more reductions doesn't end before
pub passed : (m : Machine) (t : ℕ) (start stack : List ℕ) (n bound : ℕ) → ReducesTo m t start n stack → bound < n
    → EndsWithin m t start bound → ⊥
passed m t start stack n bound led past r = let i = no_more r.ending led r.leads r.stops in omega (arith, r.within)

-- the two states of an edge
pub edge_items : (below top : StateNo) (none one two : List StateNo) → none ≡ [] → one ≡ none ++ below ∷ []
    → two ≡ one ++ top ∷ [] → two ≡ below ∷ top ∷ []
edge_items below top none one two e0 e1 e2 =
    e2 ∙ ap (λ xs. xs ++ top ∷ []) (e1 ∙ ap (λ xs. xs ++ below ∷ []) e0)

pub edge_states : (m : Machine) (below top : StateNo) → below.0 < states_of m → top.0 < states_of m
    → AreStates m (below ∷ top ∷ [])
edge_states m below top b t zero d lt = b
edge_states m below top b t (suc zero) d lt = t
edge_states m below top b t (suc (suc k)) d lt = absurd (omega arith)

-- runs one behind the other
pub reduces_on : {m : Machine} {t n k : ℕ} {start stack last : List ℕ} → ReducesTo m t start n stack
    → ReducesTo m t stack k last → ReducesTo m t start (n + k) last
reduces_on {m} {t} {k = k} {start = start} {last = last} here r =
    subst (λ i. ReducesTo m t start i last) (omega arith) r
reduces_on {m} {t} {k = k} {start = start} {last = last} (onward {n = n} step l) r =
    subst (λ i. ReducesTo m t start i last) (omega arith) (onward step (reduces_on l r))
