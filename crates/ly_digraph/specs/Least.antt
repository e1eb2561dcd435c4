-- Rows of sets that grow along a graph.
use Rattle.std.specs.Prelude.{ℕ, List}
use Rattle.ly_sets.specs.NumberSet.{NumberSet, Member}
use Rattle.ly_sets.specs.SetMatrix.{row}
use Rattle.ly_digraph.specs.Digraph.{Digraph, IsEdge, Reaches}

-- each row of the second contains the same row of the first
pub record Holds (old new : List NumberSet) : Type 0 where
  pub holds : (i n : ℕ) → Member (row old i) n → Member (row new i) n

-- if there is an edge i -> j, row i contains row j
pub record GrowsAlong (g : Digraph) (sets : List NumberSet) : Type 0 where
  pub grows : (i j n : ℕ) → IsEdge g i j → Member (row sets j) n → Member (row sets i) n

-- the least rows that contain the given ones and grow along the graph
pub record IsLeast (g : Digraph) (given sets : List NumberSet) : Type 0 where
  pub holds : Holds given sets
  pub grows : GrowsAlong g sets
  pub least : (other : List NumberSet) → Holds given other → GrowsAlong g other → Holds sets other

-- nothing is lost, and each member that was added to a row was in a row that it reaches
pub record IsBetween (g : Digraph) (old new : List NumberSet) : Type 0 where
  pub kept : Holds old new
  pub reached : (i n : ℕ) → Member (row new i) n → (j : ℕ) × Reaches g i j × Member (row old j) n
