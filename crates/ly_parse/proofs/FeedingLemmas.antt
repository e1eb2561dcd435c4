-- A turn on a token, and the move that it is on the states alone.
use Rattle.std.proofs.Common.{◌≡◌, ℕ, zero, suc, List, [], ◌∷◌, drop, Option, Some, None, refl, ap, ◌∙◌}
use Rattle.std.proofs.Common.{subst}
use Rattle.std.specs.Prelude.{slice_get}
use Rattle.ly_base.specs.Lexed.{Token}
use Rattle.ly_pack.specs.Machine.{Machine, TableAction, TableRule, action_of, entry_at, goto_at, or_default, reduce}
use Rattle.ly_pack.specs.Machine.{IsLegal, IsMachine}
use Rattle.ly_pack.specs.Steady as steady
use Rattle.ly_pack.specs.Steady.{action_on, move, rule_at}
use Rattle.ly_parse.specs.Feeding.{Fed, Feeds, Level, go_to, goes_on, onward, perform, pop, reduce_by, settled}
use Rattle.ly_parse.specs.Feeding.{settles, states_on, top_of, turn, uncover}
use Rattle.ly_parse.specs.Private.Stack.{FeedAlike, FeedAs}
use Rattle.ly_tree.specs.Term.{Terms, made, none}

-- all that an action names is there
pub legal : (m : Machine) (s t : ℕ) (a : TableAction) → IsMachine m → action_of m s t ≡ a → IsLegal m t a
legal m s t a h same = by_entry (entry_at m s t) (slice_get m.defaults s) refl refl same
  where
    by_entry : (o : Option TableAction) (d : Option (Option ℕ)) → entry_at m s t ≡ o → slice_get m.defaults s ≡ d
        → or_default o d ≡ a → IsLegal m t a
    by_entry (Some b) d e f same = subst (IsLegal m t) same (h.actions s t b e)
    by_entry None (Some (Some p)) e f same = subst (IsLegal m t) same (h.defaults s p f)
    by_entry None (Some None) e f same = subst (IsLegal m t) same tt
    by_entry None None e f same = subst (IsLegal m t) same tt

-- popping takes the states off too
pub pop_states : (n : ℕ) (stack : List Level) (ts : Terms) (x : Terms × List Level) → pop n stack ts ≡ Some x
    → drop n (states_on stack) ≡ states_on x.1
pop_states zero stack ts x e = let same : (ts, stack) ≡ x = cc in ap (λ y. states_on y.1) same
pop_states (suc n) [] ts x e = absurd cc
pop_states (suc n) (l ∷ stack) ts x e = pop_states n stack _ x e

pub goes_from_top : (m : Machine) (left : ℕ) (stack : List Level)
    → steady.go_to m left (states_on stack) ≡ steady.push (states_on stack) (goto_at m (top_of stack) left)
goes_from_top m left [] = refl
goes_from_top m left (l ∷ stack) = refl

pub acts_on_top : (m : Machine) (t : ℕ) (stack : List Level)
    → action_on m t (states_on stack) ≡ action_of m (top_of stack) t
acts_on_top m t [] = refl
acts_on_top m t (l ∷ stack) = refl

reduces : (m : Machine) (p : ℕ) (stack next : List Level) (o : Option TableRule)
    → reduce_by m p stack o ≡ goes_on next
    → steady.reduce_by m (states_on stack) o ≡ steady.goes_on (states_on next)
reduces m p stack next None e = absurd cc
reduces m p stack next (Some r) e = by_pop (pop r.body_length stack none) refl e
  where
    by_state : (x : Terms × List Level) (o : Option ℕ) → pop r.body_length stack none ≡ Some x
        → goto_at m (top_of x.1) r.left ≡ o → go_to p r x.0 x.1 o ≡ goes_on next
        → steady.reduce_by m (states_on stack) (Some r) ≡ steady.goes_on (states_on next)
    by_state x None popped g e = absurd cc
    by_state x (Some state) popped g e =
        let same : record { state = state; term = made p r.shape x.0 } ∷ x.1 ≡ next = cc in
        ap (steady.go_to m r.left) (pop_states r.body_length stack none x popped)
        ∙ (goes_from_top m r.left x.1 ∙ (ap (steady.push (states_on x.1)) g
        ∙ ap (λ s. steady.goes_on (states_on s)) same))

    by_pop : (o : Option (Terms × List Level)) → pop r.body_length stack none ≡ o → uncover m p r o ≡ goes_on next
        → steady.reduce_by m (states_on stack) (Some r) ≡ steady.goes_on (states_on next)
    by_pop None popped e = absurd cc
    by_pop (Some x) popped e = by_state x (goto_at m (top_of x.1) r.left) popped refl e

-- a reduction is a move of the states
pub moves : (m : Machine) (t p : ℕ) (stack next : List Level) → action_of m (top_of stack) t ≡ reduce p
    → reduce_by m p stack (rule_at m p) ≡ goes_on next → move m t (states_on stack) ≡ steady.goes_on (states_on next)
moves m t p stack next a e = ap (steady.perform m (states_on stack)) (acts_on_top m t stack ∙ a)
    ∙ reduces m p stack next (rule_at m p) e

-- the turn that an action makes
turns : (m : Machine) (token : Token ℕ) (t : ℕ) (stack : List Level) (a : TableAction)
    → action_of m (top_of stack) t ≡ a → token.terminal ≡ t → turn m token stack ≡ perform m token stack a
turns m token t stack a e same = ap (λ k. perform m token stack (action_of m (top_of stack) k)) same
    ∙ ap (perform m token stack) e

-- after a reduction a token becomes what it would have become before it
pub feeds_alike : (m : Machine) (t p : ℕ) (stack next : List Level) → action_of m (top_of stack) t ≡ reduce p
    → reduce_by m p stack (rule_at m p) ≡ goes_on next → FeedAlike m t next stack
feeds_alike m t p stack next a e token out same fed = onward (turns m token t stack (reduce p) a same ∙ e) fed

pub feeds_as : (m : Machine) (t p : ℕ) (stack : List Level) (out : Fed) → action_of m (top_of stack) t ≡ reduce p
    → reduce_by m p stack (rule_at m p) ≡ settles out → FeedAs m t stack out
feeds_as m t p stack out a e token same = settled (turns m token t stack (reduce p) a same ∙ e)

-- what an action settles at once
pub feeds_by : (m : Machine) (token : Token ℕ) (stack : List Level) (a : TableAction) (out : Fed)
    → action_of m (top_of stack) token.terminal ≡ a → perform m token stack a ≡ settles out → Feeds m token stack out
feeds_by m token stack a out e done = settled (turns m token token.terminal stack a e refl ∙ done)
