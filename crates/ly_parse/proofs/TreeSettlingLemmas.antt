-- On steady tables each token is settled, also with derivation trees on the stack.
use Rattle.std.proofs.Common.{◌≡◌, ℕ, ◌<◌, List, subst, sym}
use Rattle.ly_base.specs.Lexed.{Token}
use Rattle.ly_pack.specs.Machine.{IsMachine, Machine}
use Rattle.ly_pack.specs.Steady.{IsSteady}
use Rattle.ly_pack.specs.SteadyLaws.{IsStack}
use Rattle.ly_parse.proofs.SettlingLemmas as terms
use Rattle.ly_parse.proofs.TreeFeeding.{done_with_terms, done_with_trees, same_states}
use Rattle.ly_parse.specs.Deriving.{FeedsTree, HasTrees, TreeFed, TreeLevel, levels_by, pushed, shape_of_rule}
use Rattle.ly_parse.specs.Deriving.{states_below}
use Rattle.ly_parse.specs.Feeding.{states_on}
use Rattle.ly_parse.specs.Feeding as fed

module _ (m : Machine) (token : Token ℕ) where
  -- the states of a stack are those with its terms
  pub as_terms : (stack : List TreeLevel) → IsStack m (states_below stack)
      → IsStack m (states_on (levels_by (shape_of_rule m.rules) stack))
  as_terms stack is = subst (IsStack m) (sym (same_states (shape_of_rule m.rules) stack)) is

  pub as_trees : (stack : List TreeLevel) → IsStack m (states_on (levels_by (shape_of_rule m.rules) stack))
      → IsStack m (states_below stack)
  as_trees stack is = subst (IsStack m) (same_states (shape_of_rule m.rules) stack) is

  -- the states on a stack stay edges
  pub stack_kept : {stack next : List TreeLevel} → FeedsTree m token stack (pushed next)
      → IsStack m (states_below stack) → IsStack m (states_below next)
  stack_kept {stack} {next} f is = as_trees next (terms.stack_kept m token (done_with_terms m token f)
      (as_terms stack is))

  -- the end is never read
  pub end_not_read : {stack next : List TreeLevel} → IsMachine m → token.terminal ≡ 0
      → FeedsTree m token stack (pushed next) → ⊥
  end_not_read is end f = terms.end_not_read m token is end (done_with_terms m token f)

  -- on steady tables each token is settled
  pub settles_on_steady : (stack : List TreeLevel) → IsSteady m → token.terminal < m.terminals
      → IsStack m (states_below stack) → (out : TreeFed) × FeedsTree m token stack out
  settles_on_steady stack calm within is =
      let settled = terms.settles_on_steady m token (levels_by (shape_of_rule m.rules) stack) calm within
      (as_terms stack is) in
      let it : HasTrees m token stack settled.0
      = done_with_trees m token stack (λ i. levels_by (shape_of_rule m.rules) stack) settled.1 in
      (it.fed, it.feeds)
