-- On steady tables each token is settled.
use Rattle.std.proofs.Common.{◌≡◌, ℕ, zero, suc, ◌+◌, ◌*◌, ◌<◌, List, [], ◌∷◌, Option}
use Rattle.std.proofs.Common.{None, Some, ap, arith, length, refl, subst, sym}
use Rattle.ly_base.specs.Lexed.{Token}
use Rattle.ly_pack.specs.Machine.{Machine, TableAction, TableRule, IsMachine, accept, action_of, error, goto_at}
use Rattle.ly_pack.specs.Machine.{reduce, shift}
use Rattle.ly_pack.specs.Steady as steady
use Rattle.ly_pack.specs.Steady.{EndsWithin, IsSteady, move, rule_at, run_bound}
use Rattle.ly_pack.specs.SteadyLaws.{IsStack, reductions}
use Rattle.ly_pack.proofs.Runs.{keeps, reductions_fall, runs_end, shifts_keep}
use Rattle.ly_parse.specs.Feeding.{Fed, Feeds, Level, Turn, accept_with, go_to, goes_on, onward, perform, pop}
use Rattle.ly_parse.specs.Feeding.{pushed, reduce_by, settled, settles, states_on, top_of, turn, uncover}
use Rattle.ly_parse.proofs.FeedingLemmas.{legal, moves}
use Rattle.ly_tree.specs.Term.{Terms}
use Rattle.ly_tree.specs.Term as term

-- a reduction never reads a token
reduced_not_read : (m : Machine) (p : ℕ) (stack next : List Level) (o : Option TableRule)
    → reduce_by m p stack o ≡ settles (pushed next) → ⊥
reduced_not_read m p stack next None e = cc e
reduced_not_read m p stack next (Some r) e = by_pop (pop r.body_length stack term.none) e where
  by_state : (x : Terms × List Level) (o : Option ℕ) → go_to p r x.0 x.1 o ≡ settles (pushed next) → ⊥
  by_state x None e = cc e
  by_state x (Some state) e = cc e

  by_pop : (o : Option (Terms × List Level)) → uncover m p r o ≡ settles (pushed next) → ⊥
  by_pop None e = cc e
  by_pop (Some x) e = by_state x (goto_at m (top_of x.1) r.left) e

accepted_not_read : (stack next : List Level)
    → accept_with stack ≡ settles (pushed next) → ⊥
accepted_not_read [] next e = cc e
accepted_not_read (l ∷ stack) next e = cc e

accepted_not_on : (stack next : List Level) → accept_with stack ≡ goes_on next → ⊥
accepted_not_on [] next e = cc e
accepted_not_on (l ∷ stack) next e = cc e

module _ (m : Machine) (token : Token ℕ) where
  -- A token that is read is shifted.
  record Shifted (stack next : List Level) : Type 0 where
    state : ℕ
    action : action_of m (top_of stack) token.terminal ≡ shift state
    states : states_on next ≡ state ∷ states_on stack

  read_shifts : (stack next : List Level) → turn m token stack ≡ settles (pushed next) → Shifted stack next
  read_shifts stack next e = by_action (action_of m (top_of stack) token.terminal) refl e where
    by_action : (a : TableAction) → action_of m (top_of stack) token.terminal ≡ a
        → perform m token stack a ≡ settles (pushed next) → Shifted stack next
    by_action (shift state) is e =
        let same : record { state = state; term = term.leaf token.terminal token.bytes } ∷ stack ≡ next = cc in
        record { state = state; action = is; states = ap states_on (sym same) }
    by_action (reduce p) is e = absurd (reduced_not_read m p stack next (rule_at m p) e)
    by_action accept is e = absurd (accepted_not_read stack next e)
    by_action error is e = absurd cc

  -- a turn that goes on is a move of the states
  pub turn_moves : (stack next : List Level) → turn m token stack ≡ goes_on next
      → move m token.terminal (states_on stack) ≡ steady.goes_on (states_on next)
  turn_moves stack next e = by_action (action_of m (top_of stack) token.terminal) refl e where
    by_action : (a : TableAction) → action_of m (top_of stack) token.terminal ≡ a
        → perform m token stack a ≡ goes_on next
        → move m token.terminal (states_on stack) ≡ steady.goes_on (states_on next)
    by_action (shift state) is e = absurd cc
    by_action (reduce p) is e = moves m token.terminal p stack next is e
    by_action accept is e = absurd (accepted_not_on stack next e)
    by_action error is e = absurd cc

  -- a token whose run ends is settled
  pub settles_within : (fuel limit : ℕ) (stack : List Level) → EndsWithin m token.terminal (states_on stack) limit
      → reductions m token.terminal limit (states_on stack) < fuel → (out : Fed) × Feeds m token stack out
  settles_within zero limit stack ends less = absurd (omega arith)
  settles_within (suc fuel) limit stack ends less = by_turn (turn m token stack) refl
      (λ next l f. settles_within fuel limit next l f)
    where
      by_turn : (x : Turn) → turn m token stack ≡ x
          → ((next : List Level) → EndsWithin m token.terminal (states_on next) limit
          → reductions m token.terminal limit (states_on next) < fuel → (out : Fed) × Feeds m token next out)
          → (out : Fed) × Feeds m token stack out
      by_turn (settles out) e later = (out, settled e)
      by_turn (goes_on next) e later =
          let falls = reductions_fall m token.terminal limit (states_on stack) (states_on next) ends
          (turn_moves stack next e) in
          let rest = later next falls.0 (omega (arith, falls.1, less)) in
          (rest.0, onward e rest.1)

  -- the states on a stack stay edges
  pub stack_kept : {stack next : List Level} → Feeds m token stack (pushed next) → IsStack m (states_on stack)
      → IsStack m (states_on next)
  stack_kept {stack = stack} {next = next} (settled e) is =
      let s = read_shifts stack next e in
      subst (IsStack m) (sym s.states) (by_stack stack s.action is)
    where
      by_stack : {k : ℕ} (st : List Level) → action_of m (top_of st) token.terminal ≡ shift k → IsStack m (states_on st)
          → IsStack m (k ∷ states_on st)
      by_stack {k = k} [] a is = shifts_keep m token.terminal k 0 [] is a
      by_stack {k = k} (l ∷ st) a is = shifts_keep m token.terminal k l.state (states_on st) is a
  stack_kept {stack = stack} (onward {next = next} e rest) is = stack_kept rest
      (keeps m token.terminal is (steady.onward (turn_moves stack next e) steady.here))

  -- the end is never read
  pub end_not_read : {stack next : List Level} → IsMachine m → token.terminal ≡ 0 → Feeds m token stack (pushed next)
      → ⊥
  end_not_read {stack = stack} {next = next} is end (settled e) =
      let s = read_shifts stack next e in
      let l = legal m (top_of stack) token.terminal (shift s.state) is s.action in
      omega (arith, l.1, end)
  end_not_read is end (onward e rest) = end_not_read is end rest

-- on steady tables each token is settled
pub settles_on_steady : (m : Machine) (token : Token ℕ) (levels : List Level) → IsSteady m
    → token.terminal < m.terminals → IsStack m (states_on levels) → (out : Fed) × Feeds m token levels out
settles_on_steady m token levels calm within stack =
    let limit = (run_bound + 1) * length (states_on levels) in
    settles_within m token (suc (reductions m token.terminal limit (states_on levels))) limit levels
    (runs_end m run_bound token.terminal (states_on levels) calm within stack) (omega arith)
