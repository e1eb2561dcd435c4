-- A terminal is expected where a token of it would be read, or accepted with a term.
use Rattle.std.proofs.Common.{◌≡◌, ◌∙◌, ◌⊎◌, inl, inr, ℕ, zero, suc, List, [], ◌∷◌, Option, Some, None}
use Rattle.std.proofs.Common.{ap, arith, drop, refl, subst, sym}
use Rattle.std.proofs.Math.Seq.{drop-nil}
use Rattle.ly_base.specs.Lexed.{Token}
use Rattle.ly_pack.specs.Machine.{Machine, TableAction, TableRule, accept, action_of, error, goto_at, reduce, shift}
use Rattle.ly_pack.specs.Steady as steady
use Rattle.ly_pack.specs.Steady.{RunEnd, accepts, ends, lacks_goto, leaves_bottom, move, reads, refuses, rule_at}
use Rattle.ly_parse.specs.Expected.{IsExpected, accepted, onward, read}
use Rattle.ly_parse.specs.Feeding.{Fed, Feeds, Level, accept_with, done, faulty, go_to, goes_on, perform, pop, pushed}
use Rattle.ly_parse.specs.Feeding.{reduce_by, refused, settled, settles, states_on, top_of, turn, uncover}
use Rattle.ly_parse.specs.Feeding as fed
use Rattle.ly_parse.proofs.ExpectedRunLemmas.{bare, behind, ended_fine}
use Rattle.ly_parse.proofs.FeedingLemmas.{acts_on_top, goes_from_top, pop_states}
use Rattle.ly_parse.proofs.SettlingLemmas.{turn_moves}
use Rattle.ly_tree.specs.Term.{Terms, leaf, none}

-- REDUCTIONS THAT SETTLE A TOKEN

-- A body goes past the bottom in the states too.
pop_none : (n : ℕ) (stack : List Level) (ts : Terms) → pop n stack ts ≡ None → drop n (states_on stack) ≡ []
pop_none zero stack ts e = absurd cc
pop_none (suc n) [] ts e = drop-nil n
pop_none (suc n) (l ∷ stack) ts e = pop_none n stack _ e

-- a reduction settles a token only where the tables are at fault, and then no run goes on
abbrev IsFault : Machine → List Level → Option TableRule → Fed → Type 0
IsFault m stack o out = (faulty ≡ out) × ((steady.reduce_by m (states_on stack) o ≡ ends lacks_goto)
    ⊎ (steady.reduce_by m (states_on stack) o ≡ ends leaves_bottom))

reduced_fault : (m : Machine) (p : ℕ) (stack : List Level) (o : Option TableRule) (out : Fed)
    → reduce_by m p stack o ≡ settles out → IsFault m stack o out
reduced_fault m p stack None out e = (cc, inl refl)
reduced_fault m p stack (Some r) out e = by_pop (pop r.body_length stack none) refl e
  where
    by_state : (x : Terms × List Level) (o : Option ℕ) → pop r.body_length stack none ≡ Some x
        → goto_at m (top_of x.1) r.left ≡ o → go_to p r x.0 x.1 o ≡ settles out → IsFault m stack (Some r) out
    by_state x None popped g e = (
      cc,
      inl (ap (steady.go_to m r.left) (pop_states r.body_length stack none x popped)
          ∙ (goes_from_top m r.left x.1 ∙ ap (steady.push (states_on x.1)) g)),
    )
    by_state x (Some state) popped g e = absurd cc

    by_pop : (o : Option (Terms × List Level)) → pop r.body_length stack none ≡ o → uncover m p r o ≡ settles out
        → IsFault m stack (Some r) out
    by_pop None popped e = (cc, inr (ap (steady.go_to m r.left) (pop_none r.body_length stack none popped)))
    by_pop (Some x) popped e = by_state x (goto_at m (top_of x.1) r.left) popped refl e

-- TOKENS

-- the token is read, or accepted with a term
abbrev pub IsTaken : Fed → Type 0
IsTaken (pushed next) = Unit {0}
IsTaken (done term) = Unit {0}
IsTaken refused = ⊥
IsTaken faulty = ⊥

module _ (m : Machine) (token : Token ℕ) where
  abbrev Expected : List Level → Type 0
  Expected stack = IsExpected m token.terminal (states_on stack)

  -- the move of the states by an action
  move_by : (stack : List Level) (a : TableAction) → action_of m (top_of stack) token.terminal ≡ a
      → move m token.terminal (states_on stack) ≡ steady.perform m (states_on stack) a
  move_by stack a e = ap (steady.perform m (states_on stack)) (acts_on_top m token.terminal stack ∙ e)

  fault_not_expected : (stack : List Level) (p : ℕ) (out : Fed)
      → action_of m (top_of stack) token.terminal ≡ reduce p → IsFault m stack (rule_at m p) out → Expected stack → ⊥
  fault_not_expected stack p out is (same, inl e) x =
      ended_fine m token.terminal (states_on stack) lacks_goto (move_by stack (reduce p) is ∙ e) x
  fault_not_expected stack p out is (same, inr e) x =
      ended_fine m token.terminal (states_on stack) leaves_bottom (move_by stack (reduce p) is ∙ e) x

  accepted_taken : (stack : List Level) (out : Fed) → move m token.terminal (states_on stack) ≡ ends accepts
      → accept_with stack ≡ settles out → Expected stack → IsTaken out
  accepted_taken [] out is e x = absurd (bare m token.terminal (states_on []) is (λ lt. omega (arith, lt)) x)
  accepted_taken (l ∷ stack) out is e x = let same : done l.term ≡ out = cc in subst IsTaken same tt

  settled_taken : (stack : List Level) (out : Fed) → turn m token stack ≡ settles out → Expected stack → IsTaken out
  settled_taken stack out e x = by_action (action_of m (top_of stack) token.terminal) refl e where
    by_action : (a : TableAction) → action_of m (top_of stack) token.terminal ≡ a
        → perform m token stack a ≡ settles out → IsTaken out
    by_action (shift state) is e =
        let same : pushed (record { state = state; term = leaf token.terminal token.bytes } ∷ stack) ≡ out = cc in
        subst IsTaken same tt
    by_action (reduce p) is e =
        absurd (fault_not_expected stack p out is (reduced_fault m p stack (rule_at m p) out e) x)
    by_action accept is e = accepted_taken stack out (move_by stack accept is) e x
    by_action error is e = absurd (ended_fine m token.terminal (states_on stack) refuses (move_by stack error is) x)

  accepts_expected : (stack : List Level) (out : Fed) → move m token.terminal (states_on stack) ≡ ends accepts
      → accept_with stack ≡ settles out → IsTaken out → Expected stack
  accepts_expected [] out is e taken = let same : out ≡ faulty = cc in absurd (subst IsTaken same taken)
  accepts_expected (l ∷ []) out is e taken = accepted is
  accepts_expected (l ∷ k ∷ stack) out is e taken = accepted is

  settled_expected : (stack : List Level) (out : Fed) → turn m token stack ≡ settles out → IsTaken out
      → Expected stack
  settled_expected stack out e taken = by_action (action_of m (top_of stack) token.terminal) refl e where
    by_action : (a : TableAction) → action_of m (top_of stack) token.terminal ≡ a
        → perform m token stack a ≡ settles out → Expected stack
    by_action (shift state) is e = read (move_by stack (shift state) is)
    by_action (reduce p) is e =
        let fault = reduced_fault m p stack (rule_at m p) out e in
        absurd (subst IsTaken (sym fault.0) taken)
    by_action accept is e = accepts_expected stack out (move_by stack accept is) e taken
    by_action error is e = let same : out ≡ refused = cc in absurd (subst IsTaken same taken)

  -- where the terminal is expected, the token is taken
  pub expected_is_taken : {stack : List Level} {out : Fed} → Feeds m token stack out → Expected stack → IsTaken out
  expected_is_taken {stack} {out} (settled e) x = settled_taken stack out e x
  expected_is_taken {stack} {out} (fed.onward {next = next} e rest) x =
      expected_is_taken rest (behind m token.terminal (states_on stack) (states_on next)
      (turn_moves m token stack next e) x)

  -- and where the token is taken, its terminal is expected
  pub taken_is_expected : {stack : List Level} {out : Fed} → Feeds m token stack out → IsTaken out → Expected stack
  taken_is_expected {stack} {out} (settled e) taken = settled_expected stack out e taken
  taken_is_expected {stack} {out} (fed.onward {next = next} e rest) taken =
      onward (turn_moves m token stack next e) (taken_is_expected rest taken)
