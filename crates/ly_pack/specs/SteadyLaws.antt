-- Runs on steady tables: every run on a token ends, and each of its reductions decreases a number.
use Rattle.std.specs.Prelude.{◌≡◌, ℕ, zero, suc, ◌+◌, ◌*◌, ◌<◌, ◌≤◌, List, [], ◌∷◌, ◌++◌, length, Some}
use Rattle.ly_pack.specs.Machine.{Machine, TableRule, shift, reduce, action_of}
use Rattle.ly_pack.specs.Steady.{RunEnd, Move, ends, goes_on, rule_at, move, ReducesTo, EndsWithin, IsTableEdge}
use Rattle.ly_pack.specs.Steady.{IsSteadyWithin}

-- A stack of states, its top first, in which any two neighbours are an edge. The bottom may be alone.
pub data IsStack (m : Machine) : List ℕ → Type 0 where
  bottom : {state : ℕ} → IsStack m (state ∷ [])
  on_edge : {top below : ℕ} {rest : List ℕ} → IsTableEdge m below top → IsStack m (below ∷ rest)
      → IsStack m (top ∷ below ∷ rest)

abbrev pub counted : (List ℕ → ℕ) → Move → ℕ
counted more (ends e) = 0
counted more (goes_on next) = suc (more next)

-- the number of reductions of a run, counted up to a limit
abbrev pub reductions : Machine → ℕ → ℕ → List ℕ → ℕ
reductions m t zero stack = 0
reductions m t (suc limit) stack = counted (λ next. reductions m t limit next) (move m t stack)

-- reductions keep neighbours edges
abbrev pub ReductionsKeepEdges : Type 0
ReductionsKeepEdges = (m : Machine) (t n : ℕ) (stack last : List ℕ) → IsStack m stack → ReducesTo m t stack n last
    → IsStack m last

-- so does a shift
abbrev pub ShiftsKeepEdges : Type 0
ShiftsKeepEdges = (m : Machine) (t state top : ℕ) (low : List ℕ) → IsStack m (top ∷ low)
    → action_of m top t ≡ shift state → IsStack m (state ∷ top ∷ low)

-- the bottom alone reduces only by an empty body, which adds an edge
abbrev pub BottomMakesEdge : Type 0
BottomMakesEdge = (m : Machine) (t state : ℕ) (next : List ℕ) → move m t (state ∷ []) ≡ goes_on next
    → (p : ℕ) × (r : TableRule) × (top : ℕ) × (action_of m state t ≡ reduce p) × (rule_at m p ≡ Some r)
    × (r.body_length ≡ 0) × IsTableEdge m state top × (next ≡ top ∷ state ∷ [])

-- the reductions of the upper states alone are made on any stack
abbrev pub ReducesAbove : Type 0
ReducesAbove = (m : Machine) (t n : ℕ) (stack last more : List ℕ) → ReducesTo m t stack n last
    → ReducesTo m t (stack ++ more) n (last ++ more)

-- If the upper states alone would stop and the whole stack continues, they are popped: with two upper states, the stack
-- gets lower.
abbrev pub LeavingLowers : Type 0
LeavingLowers = (m : Machine) (t : ℕ) (stack more next : List ℕ) (e : RunEnd) → 0 < length stack
    → move m t stack ≡ ends e → move m t (stack ++ more) ≡ goes_on next → length next ≤ suc (length more)

-- on steady tables each run from an edge ends, because the edge's own run ends and each pop of it lowers the stack
abbrev pub RunsAboveEnd : Type 0
RunsAboveEnd = (m : Machine) (bound t top below : ℕ) (rest : List ℕ) → IsSteadyWithin m bound → t < m.terminals
    → IsStack m (top ∷ below ∷ rest) → EndsWithin m t (top ∷ below ∷ rest) ((bound + 1) * length (below ∷ rest))

-- each run ends, including those from the bottom alone
abbrev pub RunsEnd : Type 0
RunsEnd = (m : Machine) (bound t : ℕ) (stack : List ℕ) → IsSteadyWithin m bound → t < m.terminals → IsStack m stack
    → EndsWithin m t stack ((bound + 1) * length stack)

-- the remaining number of reductions decreases with each one: a measure for a parser's loop
abbrev pub ReductionsFall : Type 0
ReductionsFall = (m : Machine) (t limit : ℕ) (stack next : List ℕ) → EndsWithin m t stack limit
    → move m t stack ≡ goes_on next
    → EndsWithin m t next limit × (reductions m t limit next < reductions m t limit stack)
