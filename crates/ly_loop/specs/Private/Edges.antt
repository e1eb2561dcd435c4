-- The edges above a state, and the first run above edges that makes too many reductions.
use Rattle.std.specs.Prelude.{◌≡◌, ◌⊎◌, ℕ, ◌<◌, Bool, true, false, List, Contains, Option, Some, None}
use Rattle.ly_base.specs.declared.numbers.StateNo.{StateNo}
use Rattle.ly_pack.specs.Machine.{Machine}
use Rattle.ly_pack.specs.Steady.{IsTableEdge}
use Rattle.ly_pack.specs.declared.action.TableAction.{TableAction}
use Rattle.ly_pack.specs.declared.action.TableAction.TheVariants.{Shift}
use Rattle.ly_pack.specs.declared.cell.Cell.{Cell}
use Rattle.ly_loop.specs.Endless.{ComesBefore, EdgeEnds}
use Rattle.ly_loop.specs.Private.Known.{IsWithinStates}
use Rattle.ly_loop.specs.declared.edges.Passing.{Passing}
use Rattle.ly_loop.specs.declared.known.Edge.{Edge}

-- the runs of an edge end on all terminals
abbrev pub AllEnd : Machine → ℕ → ℕ → Type 0
AllEnd m below top = (t : ℕ) → t < m.terminals → EdgeEnds m below top t

-- The states to which a state leads.
pub record AreTargets (m : Machine) (below : ℕ) (targets : List StateNo) : Type 0 where
  pub sound : (s : StateNo) → Contains targets s → IsTableEdge m below s.0
  pub whole : (top : ℕ) → IsTableEdge m below top → (s : StateNo) × Contains targets s × (s.0 ≡ top)

-- The states to which some entries shift, and others.
pub record AreTargetsOf (entries : List (Cell TableAction)) (gotos : List (Cell StateNo)) (targets : List StateNo)
    : Type 0 where
  pub sound : (s : StateNo) → Contains targets s → ((e : Cell TableAction) × Contains entries e × (e.entry ≡ Shift s))
      ⊎ ((e : Cell StateNo) × Contains gotos e × (e.entry ≡ s))
  pub shifts : (e : Cell TableAction) (s : StateNo) → Contains entries e → e.entry ≡ Shift s → Contains targets s
  pub others : (e : Cell StateNo) → Contains gotos e → Contains targets e.entry

-- an edge of these states is among some
abbrev pub IsAmong : List Edge → ℕ → ℕ → Type 0
IsAmong edges below top = (e : Edge) × Contains edges e × (e.below.0 ≡ below) × (e.top.0 ≡ top)

-- the states of edges are there
abbrev pub AreWithinStates : Machine → List Edge → Type 0
AreWithinStates m edges = (e : Edge) → Contains edges e → IsWithinStates m e

-- Edges above the first states, among which all are that have runs that don't end.
pub record AreDoubtful (m : Machine) (states : ℕ) (edges : List Edge) : Type 0 where
  pub sound : (e : Edge) → Contains edges e → IsTableEdge m e.below.0 e.top.0
  pub whole : (below top : ℕ) → below < states → IsTableEdge m below top → AllEnd m below top ⊎ IsAmong edges below top

-- Those of a state and its targets come to others.
pub record AreMoreDoubtful (m : Machine) (below : StateNo) (targets : List StateNo) (old new : List Edge) : Type 0
  where
    pub kept : (e : Edge) → Contains old e → Contains new e
    pub sound : (e : Edge) → Contains new e → Contains old e ⊎ ((e.below ≡ below) × Contains targets e.top)
    pub whole : (s : StateNo) → Contains targets s
        → AllEnd m below.0 s.0 ⊎ Contains new (record { below = below; top = s })

-- a run above one of these edges, on one of the first terminals
abbrev pub IsAbove : List Edge → ℕ → ℕ → ℕ → ℕ → Type 0
IsAbove edges terminals below top t = IsAmong edges below top × (t < terminals)

-- The first of some runs that makes too many reductions.
pub record IsFirstRun (m : Machine) (Runs : ℕ → ℕ → ℕ → Type 0) (p : Passing) : Type 0 where
  pub member : Runs p.edge.below.0 p.edge.top.0 p.token.0
  pub endless : EdgeEnds m p.edge.below.0 p.edge.top.0 p.token.0 → ⊥
  pub first : (b s t : ℕ) → ComesBefore b s t p.edge.below.0 p.edge.top.0 p.token.0 → Runs b s t → EdgeEnds m b s t

-- the first of some runs that makes too many reductions, if one does
abbrev pub IsFirstOf : Machine → (ℕ → ℕ → ℕ → Type 0) → Option Passing → Type 0
IsFirstOf m Runs None = (b s t : ℕ) → Runs b s t → EdgeEnds m b s t
IsFirstOf m Runs (Some p) = IsFirstRun m Runs p

-- a run comes before another
abbrev pub RunsBefore : Passing → Passing → Type 0
RunsBefore run other = ComesBefore run.edge.below.0 run.edge.top.0 run.token.0 other.edge.below.0 other.edge.top.0
    other.token.0

-- whether a run comes before another one, if there is one
abbrev pub IsBefore : Passing → Option Passing → Bool → Type 0
IsBefore run None b = b ≡ true
IsBefore run (Some other) true = RunsBefore run other
IsBefore run (Some other) false = RunsBefore run other → ⊥
