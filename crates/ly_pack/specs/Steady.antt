-- Runs of a parser's tables on one token, without the trees, and tables whose runs all end within a bound.
use Rattle.std.specs.Prelude.{◌≡◌, ℕ, suc, ◌-◌, ◌<◌, ◌≤◌, List, [], ◌∷◌, drop, Option, Some, None, slice_get}
use Rattle.ly_pack.specs.Machine.{Machine, TableAction, TableRule, shift, reduce, accept, error, action_of, goto_at}

-- The end of a run on one token: it is read, and the parser goes to a state; it is accepted; it is rejected; or the
-- tables are faulty, because a goto is missing or a body extends past the bottom of the stack.
pub data RunEnd : Type 0 where
  reads : ℕ → RunEnd
  accepts : RunEnd
  refuses : RunEnd
  lacks_goto : RunEnd
  leaves_bottom : RunEnd

-- a run ends, or continues with a stack of states, its top first
pub data Move : Type 0 where
  ends : RunEnd → Move
  goes_on : List ℕ → Move

abbrev pub push : List ℕ → Option ℕ → Move
push stack None = ends lacks_goto
push stack (Some state) = goes_on (state ∷ stack)

-- a reduction, after its body is popped
abbrev pub go_to : Machine → ℕ → List ℕ → Move
go_to m left [] = ends leaves_bottom
go_to m left (top ∷ below) = push (top ∷ below) (goto_at m top left)

abbrev pub reduce_by : Machine → List ℕ → Option TableRule → Move
reduce_by m stack None = ends lacks_goto
reduce_by m stack (Some r) = go_to m r.left (drop r.body_length stack)

-- rule p, whose index is p - 1, because rule 0 isn't among the rules
abbrev pub rule_at : Machine → ℕ → Option TableRule
rule_at m p = slice_get m.rules (p - 1)

abbrev pub perform : Machine → List ℕ → TableAction → Move
perform m stack (shift state) = ends (reads state)
perform m stack (reduce p) = reduce_by m stack (rule_at m p)
perform m stack accept = ends accepts
perform m stack error = ends refuses

abbrev pub action_on : Machine → ℕ → List ℕ → TableAction
action_on m t [] = error
action_on m t (top ∷ below) = action_of m top t

-- one move on the terminal t from a stack of states
abbrev pub move : Machine → ℕ → List ℕ → Move
move m t stack = perform m stack (action_on m t stack)

-- n reductions on the terminal t lead from one stack to another
pub data ReducesTo (m : Machine) (t : ℕ) : List ℕ → ℕ → List ℕ → Type 0 where
  here : {stack : List ℕ} → ReducesTo m t stack 0 stack
  onward : {stack next last : List ℕ} {n : ℕ} → move m t stack ≡ goes_on next → ReducesTo m t next n last
      → ReducesTo m t stack (suc n) last

-- the run on the terminal t from a stack ends after at most this many reductions
pub record EndsWithin (m : Machine) (t : ℕ) (stack : List ℕ) (bound : ℕ) : Type 0 where
  pub count : ℕ
  pub last : List ℕ
  pub ending : RunEnd
  pub leads : ReducesTo m t stack count last
  pub stops : move m t last ≡ ends ending
  pub within : count ≤ bound

-- An edge: the state below has a shift or a goto to the state on top.
pub data IsTableEdge (m : Machine) (below top : ℕ) : Type 0 where
  by_shift : (t : ℕ) → action_of m below t ≡ shift top → IsTableEdge m below top
  by_goto : (left : ℕ) → goto_at m below left ≡ Some top → IsTableEdge m below top

-- The run of an edge starts with its two states alone. It ends in `leaves_bottom` if a reduction would pop the state
-- below. It makes at most this many reductions, on every terminal.
abbrev pub IsSteadyWithin : Machine → ℕ → Type 0
IsSteadyWithin m bound = (below top t : ℕ) → t < m.terminals → IsTableEdge m below top
    → EndsWithin m t (top ∷ below ∷ []) bound

-- the number of reductions allowed above an edge
abbrev pub run_bound : ℕ
run_bound = 100000

-- the tables for which the run of every edge ends within the bound
abbrev pub IsSteady : Machine → Type 0
IsSteady m = IsSteadyWithin m run_bound
