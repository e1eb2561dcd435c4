-- What feeding a token leads to.
use Rattle.std.proofs.Common.{◌≡◌, ℕ, ◌≤◌, List, Option, Some, None}
use Rattle.std.proofs.Common.{arith, refl, subst}
use Rattle.std.specs.Prelude.{false}
use Rattle.ly_base.specs.Lexed.{Token}
use Rattle.ly_pack.specs.Machine.{Machine, TableAction, TableRule, accept, action_of, error, goto_at, reduce, shift}
use Rattle.ly_pack.specs.Machine.{IsMachine}
use Rattle.ly_pack.specs.Steady.{rule_at}
use Rattle.ly_parse.specs.Feeding.{Feeds, Level, done, go_to, onward, perform, pop, reduce_by, settled, settles}
use Rattle.ly_parse.specs.Feeding.{top_of, uncover}
use Rattle.ly_parse.specs.Parse.{IsTake, Parse}
use Rattle.ly_parse.specs.declared.token_outcome.TokenOutcome.{TokenOutcome}
use Rattle.ly_parse.specs.declared.token_outcome.TokenOutcome.TheVariants.{Accepts}
use Rattle.ly_parse.proofs.FeedingLemmas.{legal}
use Rattle.ly_tree.specs.Term.{Term, Terms, none}

-- a reduction accepts nothing
no_reduction : (m : Machine) (p : ℕ) (stack : List Level) (d : Term) (o : Option TableRule)
    → reduce_by m p stack o ≡ settles (done d) → ⊥
no_reduction m p stack d None e = cc
no_reduction m p stack d (Some r) e = by_pop (pop r.body_length stack none) e
  where
    by_state : (x : Terms × List Level) (o : Option ℕ) → go_to p r x.0 x.1 o ≡ settles (done d) → ⊥
    by_state x None e = cc
    by_state x (Some state) e = cc

    by_pop : (o : Option (Terms × List Level)) → uncover m p r o ≡ settles (done d) → ⊥
    by_pop None e = cc
    by_pop (Some x) e = by_state x (goto_at m (top_of x.1) r.left) e

-- the end alone is accepted
pub accepts_end : {m : Machine} {token : Token ℕ} {stack : List Level} {d : Term} → IsMachine m
    → Feeds m token stack (done d) → token.terminal ≡ 0
accepts_end {m} {token} {stack} {d} h (settled e) = by_action (action_of m (top_of stack) token.terminal) refl e
  where
    by_action : (a : TableAction) → action_of m (top_of stack) token.terminal ≡ a
        → perform m token stack a ≡ settles (done d) → token.terminal ≡ 0
    by_action (shift state) is e = absurd cc
    by_action (reduce p) is e = absurd (no_reduction m p stack d (rule_at m p) e)
    by_action accept is e = legal m (top_of stack) token.terminal accept h is
    by_action error is e = absurd cc
accepts_end h (onward e fed) = accepts_end h fed

-- no other token is
pub not_accepted : (s r : Parse) (t : Token ℕ) (answer : TokenOutcome) → IsMachine s.machine → s.over ≡ false
    → 1 ≤ t.terminal → answer ≡ Accepts → IsTake s t r answer → ⊥
not_accepted s r t answer h goes low is call =
    let fed = (subst (IsTake s t r) is call).before_end goes in
    let is_end = accepts_end h fed.1 in
    omega (arith, low, is_end)
