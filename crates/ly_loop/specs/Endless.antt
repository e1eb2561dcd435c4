-- The edge and the terminal that are named if tables aren't steady: the first by the state below, then by the state on
-- top, then by the terminal.
use Rattle.std.specs.Prelude.{◌≡◌, ◌⊎◌, ℕ, ◌<◌, [], ◌∷◌}
use Rattle.ly_pack.specs.Machine.{Machine}
use Rattle.ly_pack.specs.Steady.{EndsWithin, IsTableEdge, run_bound}
use Rattle.ly_loop.specs.declared.fault.LoopFault.{LoopFault}
use Rattle.ly_loop.specs.declared.fault.LoopFault.TheVariants.{Endless, OutOfMemory}

-- the run of an edge on a terminal makes at most the allowed number of reductions
abbrev pub EdgeEnds : Machine → ℕ → ℕ → ℕ → Type 0
EdgeEnds m below top token = EndsWithin m token (top ∷ below ∷ []) run_bound

-- an edge and a terminal come before others
abbrev pub ComesBefore : ℕ → ℕ → ℕ → ℕ → ℕ → ℕ → Type 0
ComesBefore b s t below top token = (b < below) ⊎ ((b ≡ below) × (s < top)) ⊎ ((b ≡ below) × (s ≡ top) × (t < token))

-- The first edge and terminal whose run makes more reductions than are allowed.
pub record IsFirstEndless (m : Machine) (below top token : ℕ) : Type 0 where
  pub edge : IsTableEdge m below top
  pub known : token < m.terminals
  pub endless : EdgeEnds m below top token → ⊥
  pub first : (b s t : ℕ) → ComesBefore b s t below top token → t < m.terminals → IsTableEdge m b s → EdgeEnds m b s t

-- the meaning of an error for the tables
abbrev pub AreTablesRefused : Machine → LoopFault → Type 0
AreTablesRefused m (Endless below top token) = IsFirstEndless m below.0 top.0 token.0
AreTablesRefused m OutOfMemory = Unit {0}
