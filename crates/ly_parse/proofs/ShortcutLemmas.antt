-- Runs of passes, on the states alone and on a stack.
use Rattle.std.proofs.Common.{◌≡◌, ℕ, suc, ◌<◌, ◌≤◌, List, [], ◌∷◌, sym, ap, ◌∙◌, arith, subst, Some}
use Rattle.ly_pack.proofs.Runs.{one_more, reductions_fall}
use Rattle.ly_pack.specs.Machine.{Machine, TableAction, action_of, goto_at, states_of, IsMachine}
use Rattle.ly_pack.specs.Steady as steady
use Rattle.ly_pack.specs.Steady.{by_goto, here, move, onward, run_bound, EndsWithin, IsSteady, IsTableEdge}
use Rattle.ly_pack.specs.Steady.{ReducesTo}
use Rattle.ly_pack.specs.SteadyLaws.{reductions}
use Rattle.ly_pack.specs.Values.{action_from}
use Rattle.ly_parse.specs.Feeding.{Level, faulty, go_to, goes_on, reduce_by, settles, top_of}
use Rattle.ly_parse.specs.Private.Shortcuts as run
use Rattle.ly_parse.specs.Private.Shortcuts.{further, passing, ArePasses, IsFrom, IsPass, IsSituation, LacksGoto}
use Rattle.ly_parse.specs.Private.Shortcuts.{Passes}
use Rattle.ly_parse.specs.Private.Stack.{FeedAs, LeadsByReductions}
use Rattle.ly_parse.specs.declared.shortcut.Shortcut.{Shortcut}
use Rattle.ly_parse.specs.declared.shortcut.Situation.{Situation}
use Rattle.ly_parse.proofs.FeedingLemmas.{feeds_alike, feeds_as, moves}
use Rattle.ly_tree.specs.Term.{Term, more, none}

-- reductions leave a run that ends, and no more of it
pub still_ends : (m : Machine) (t limit n : ℕ) (stack last : List ℕ) → ReducesTo m t stack n last
    → EndsWithin m t stack limit
    → EndsWithin m t last limit × (reductions m t limit last ≤ reductions m t limit stack)
still_ends m t limit n stack last here ends = (ends, omega arith)
still_ends m t limit n stack last (onward {next = next} {n = k} step rest) ends =
    let one = reductions_fall m t limit stack next ends step in
    let others = still_ends m t limit k next last rest one.0 in
    let falls = one.1 in
    let less = others.1 in
    (others.0, omega arith)

-- a pass is a reduction of the term on top
pass_reduces : (m : Machine) (p low left next : ℕ) (x : Term) (rest : List Level)
    → steady.rule_at m p ≡ Some (passing left) → goto_at m (top_of rest) left ≡ Some next
    → reduce_by m p (record { state = low; term = x } ∷ rest) (steady.rule_at m p)
    ≡ goes_on (record { state = next; term = x } ∷ rest)
pass_reduces m p low left next x rest rule goto =
    ap (reduce_by m p (record { state = low; term = x } ∷ rest)) rule
    ∙ ap (go_to p (passing left) (more x none) rest) goto

-- passes lead from a stack to that with another state on top
pub leads : (m : Machine) (t first : ℕ) (x : Term) (rest : List Level) (last : ℕ)
    → Passes m t (top_of rest) first last
    → LeadsByReductions m t (record { state = first; term = x } ∷ rest) (record { state = last; term = x } ∷ rest)
leads m t first x rest last run.here = record {
  alike = λ token out same fed. fed;
  count = 0;
  moves = here;
}
leads m t first x rest last (further {last = low} {left = left} passes action goto) =
    let before = leads m t first x rest low passes in
    let stack = record { state = low; term = x } ∷ rest in
    let next = record { state = last; term = x } ∷ rest in
    let made = pass_reduces m action.0 low left last x rest action.2 goto in record {
      alike = λ token out same fed. before.alike token out same
          (feeds_alike m t action.0 stack next action.1 made token out same fed);
      count = suc before.count;
      moves = one_more before.moves (moves m t action.0 stack next action.1 made);
    }

-- and to a fault where a goto is missing
pub fails : (m : Machine) (s : Situation) (x : Term) (rest : List Level) → top_of rest ≡ s.below.0 → LacksGoto m s
    → FeedAs m s.terminal.0 (record { state = s.top.0; term = x } ∷ rest) faulty
fails m s x rest under h token same =
    let stack = record { state = h.state; term = x } ∷ rest in
    let led = leads m s.terminal.0 s.top.0 x rest h.state
    (subst (λ b. Passes m s.terminal.0 b s.top.0 h.state) (sym under) h.passes) in
    let p = h.action.0 in
    let made : reduce_by m p stack (steady.rule_at m p) ≡ settles faulty
    = ap (reduce_by m p stack) h.action.2
    ∙ ap (go_to p (passing h.left) (more x none) rest) (ap (λ b. goto_at m b h.left) under ∙ h.missing) in
    led.alike token faulty same (feeds_as m s.terminal.0 p stack faulty h.action.1 made token same)

-- the state that passes lead to is there
pub known_behind : (m : Machine) (t below first last : ℕ) → IsMachine m → Passes m t below first last
    → first < states_of m → last < states_of m
known_behind m t below first last h run.here lt = lt
known_behind m t below first last h (further {left = left} passes action goto) lt = h.gotos below left last goto

-- and is an edge with the state below
pub edge_behind : (m : Machine) (t below first last : ℕ) → Passes m t below first last → IsTableEdge m below first
    → IsTableEdge m below last
edge_behind m t below first last run.here edge = edge
edge_behind m t below first last (further {left = left} passes action goto) edge = by_goto left goto

-- a pass above two states is a move
pass_moves : (m : Machine) (t below low left next : ℕ) → IsPass m (action_of m low t) left
    → goto_at m below left ≡ Some next → move m t (low ∷ below ∷ []) ≡ steady.goes_on (next ∷ below ∷ [])
pass_moves m t below low left next action goto =
    ap (steady.perform m (low ∷ below ∷ [])) action.1
    ∙ (ap (steady.reduce_by m (low ∷ below ∷ [])) action.2 ∙ ap (steady.push (below ∷ [])) goto)

-- how much is left of the run of a state above a situation's lower one
abbrev pub left_of : Machine → Situation → ℕ → ℕ
left_of m s state = reductions m s.terminal.0 run_bound (state ∷ s.below.0 ∷ [])

-- A state that passes lead to from a situation: it is there, and its run above the lower state ends.
pub record IsOnWay (m : Machine) (s : Situation) (state : ℕ) : Type 0 where
  pub passes : Passes m s.terminal.0 s.below.0 s.top.0 state
  pub known : state < states_of m
  pub ends : EndsWithin m s.terminal.0 (state ∷ s.below.0 ∷ []) run_bound

-- the situation's own is the first
pub sets_out : (m : Machine) (s : Situation) → IsSteady m → IsSituation m s → IsOnWay m s s.top.0
sets_out m s steady h = record {
  passes = run.here;
  known = h.top;
  ends = steady s.below.0 s.top.0 s.terminal.0 h.terminal h.edge;
}

-- a pass leads to the next, and less is left
pub goes_further : (m : Machine) (s : Situation) (state left next : ℕ) → IsMachine m → IsOnWay m s state
    → IsPass m (action_of m state s.terminal.0) left → goto_at m s.below.0 left ≡ Some next
    → IsOnWay m s next × (left_of m s next < left_of m s state)
goes_further m s state left next machine h action goto =
    let less = reductions_fall m s.terminal.0 run_bound (state ∷ s.below.0 ∷ []) (next ∷ s.below.0 ∷ []) h.ends
    (pass_moves m s.terminal.0 s.below.0 state left next action goto) in (
      record {
        passes = further h.passes action goto;
        known = machine.gotos s.below.0 left next goto;
        ends = less.0;
      },
      less.1,
    )

-- what is asked for as an action is done there
pub is_pass_there : (m : Machine) (s : Situation) (state left : ℕ) (a : TableAction)
    → a ≡ action_of m state s.terminal.0 → IsPass m a left → IsPass m (action_of m state s.terminal.0) left
is_pass_there m s state left a same h = (h.0, sym same ∙ h.1, h.2)

-- what a shortcut from a situation says of it
pub passes_from : (m : Machine) (from : Situation) (s : Shortcut Situation) → IsFrom (ArePasses m) from s
    → Passes m from.terminal.0 from.below.0 from.top.0 s.state.0
passes_from m from s h = subst (λ k. Passes m k.terminal.0 k.below.0 k.top.0 s.state.0) h.0 h.1.passes

pub acts_from : (m : Machine) (from : Situation) (s : Shortcut Situation) → IsFrom (ArePasses m) from s
    → action_from s.action ≡ action_of m s.state.0 from.terminal.0
acts_from m from s h = h.1.acts ∙ ap (λ k. action_of m s.state.0 k.terminal.0) h.0
