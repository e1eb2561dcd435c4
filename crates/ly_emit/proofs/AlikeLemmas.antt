-- Tables that do the same in their states have the same runs there.
use Rattle.std.proofs.Common.{◌≡◌, ◌∙◌, ◌<◌, ℕ, zero, suc, List, [], ◌∷◌, All, Option, Some, None, ap}
use Rattle.std.proofs.Common.{drop, refl, subst, sym}
use Rattle.std.proofs.lemmas.List.Elements.{All-cons, All-head, All-tail}
use Rattle.ly_pack.specs.Machine.{Machine, TableAction, TableRule, accept, action_of, error, goto_at, reduce, shift}
use Rattle.ly_pack.specs.Steady.{EndsWithin, ReducesTo, go_to, goes_on, here, move, onward, perform}
use Rattle.ly_pack.specs.Steady.{push, reduce_by, rule_at}
use Rattle.ly_pack.proofs.Runs.{made}

-- In each of so many states both do the same before a terminal; where that is a reduction, its rule is the same, and
-- each state goes to the same by its left side, which is one of them.
pub record DoAlike (m n : Machine) (states t : ℕ) : Type 0 where
  pub actions : (k : ℕ) → k < states → action_of m k t ≡ action_of n k t
  pub rules : (k p : ℕ) → k < states → action_of m k t ≡ reduce p → rule_at m p ≡ rule_at n p
  pub gotos : (k j p : ℕ) (r : TableRule) → k < states → j < states → action_of m k t ≡ reduce p → rule_at m p ≡ Some r
      → goto_at m j r.left ≡ goto_at n j r.left
  pub within : (k j p next : ℕ) (r : TableRule) → k < states → j < states → action_of m k t ≡ reduce p
      → rule_at m p ≡ Some r → goto_at m j r.left ≡ Some next → next < states

-- the states are among so many
abbrev pub AreBelow : ℕ → List ℕ → Type 0
AreBelow states stack = All (λ k. k < states) stack

below_drop : (states b : ℕ) (stack : List ℕ) → AreBelow states stack → AreBelow states (drop b stack)
below_drop states zero stack all = all
below_drop states (suc b) [] all = all
below_drop states (suc b) (k ∷ stack) all = below_drop states b stack (All-tail (λ k. k < states) k stack all)

module _ (m n : Machine) (states t : ℕ) (alike : DoAlike m n states t) where
  -- from such states both move alike
  move_alike : (stack : List ℕ) → AreBelow states stack → move m t stack ≡ move n t stack
  move_alike [] all = refl
  move_alike (k ∷ stack) all = ap (perform m (k ∷ stack)) (alike.actions k here_below)
      ∙ by_action (action_of n k t) (alike.actions k here_below)
    where
      here_below : k < states
      here_below = All-head (λ k. k < states) k stack all

      by_left : (p : ℕ) (r : TableRule) (left : List ℕ) → action_of m k t ≡ reduce p → rule_at m p ≡ Some r
          → AreBelow states left → go_to m r.left left ≡ go_to n r.left left
      by_left p r [] a is below = refl
      by_left p r (j ∷ left) a is below = ap (push (j ∷ left))
          (alike.gotos k j p r here_below (All-head (λ k. k < states) j left below) a is)

      by_rule : (p : ℕ) (o : Option TableRule) → action_of m k t ≡ reduce p → rule_at m p ≡ o
          → reduce_by m (k ∷ stack) o ≡ reduce_by n (k ∷ stack) o
      by_rule p None a is = refl
      by_rule p (Some r) a is = by_left p r (drop r.body_length (k ∷ stack)) a is
          (below_drop states r.body_length (k ∷ stack) all)

      by_action : (a : TableAction) → action_of m k t ≡ a → perform m (k ∷ stack) a ≡ perform n (k ∷ stack) a
      by_action (shift s) is = refl
      by_action (reduce p) is = by_rule p (rule_at m p) is refl
          ∙ ap (reduce_by n (k ∷ stack)) (alike.rules k p here_below is)
      by_action accept is = refl
      by_action error is = refl

  -- and stay in such states
  move_below : (stack next : List ℕ) → AreBelow states stack → move m t stack ≡ goes_on next → AreBelow states next
  move_below [] next all e = absurd cc
  move_below (k ∷ stack) next all e =
      let d = made m t (k ∷ stack) next e in
      let head = All-head (λ k. k < states) k stack all in
      let rest = below_drop states d.rule.body_length (k ∷ stack) all in
      let popped : AreBelow states (d.under ∷ d.rest) = subst (AreBelow states) d.popped rest in
      let under = All-head (λ k. k < states) d.under d.rest popped in
      let state = alike.within k d.under d.number d.state d.rule head under d.is_action d.is_rule d.is_goto in
      subst (AreBelow states) (sym d.pushed) (All-cons (λ k. k < states) d.state (d.under ∷ d.rest) state popped)

  reduces_alike : {stack last : List ℕ} {count : ℕ} → AreBelow states stack → ReducesTo m t stack count last
      → ReducesTo n t stack count last × AreBelow states last
  reduces_alike all here = (here, all)
  reduces_alike {stack = stack} all (onward {next = next} e rest) =
      let later = reduces_alike (move_below stack next all e) rest in
      (onward (sym (move_alike stack all) ∙ e) later.0, later.1)

  -- where the one's run ends, the other's does
  pub ends_alike : (stack : List ℕ) (bound : ℕ) → AreBelow states stack → EndsWithin m t stack bound
      → EndsWithin n t stack bound
  ends_alike stack bound all r =
      let run = reduces_alike all r.leads in
      record {
        count = r.count;
        last = r.last;
        ending = r.ending;
        leads = run.0;
        stops = sym (move_alike r.last run.1) ∙ r.stops;
        within = r.within;
      }
