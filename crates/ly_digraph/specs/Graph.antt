-- How a `Graph` stores its edges.
use Rattle.std.specs.Prelude.{◌<◌, ℕ, List, length, map, slice_index, slice_index_or}
use Rattle.ly_digraph.specs.Digraph.{source, target, IsEndBefore}
use Rattle.ly_digraph.specs.declared.graph.Edge.{Edge}

abbrev pub ends_of : List Edge → List (ℕ × ℕ)
ends_of edges = map (λ e. (e.from, e.to)) edges

-- each node has the end of its edges, and each edge the end of the node's edges before it
pub record IsEdgeList (ends : List ℕ) (edges : List Edge) : Type 0 where
  pub lasts : (x : ℕ) → x < length ends → IsEndBefore (record { nodes = length ends; edges = ends_of edges }) x
      (length edges) (slice_index ends x)
  pub before : (e : ℕ) → e < length edges → IsEndBefore (record { nodes = length ends; edges = ends_of edges })
      (source (record { nodes = length ends; edges = ends_of edges }) e) e
      (slice_index_or edges e (record { from = 0; to = 0; before = 0 })).before
  pub inside : (e : ℕ) → e < length edges
      → (source (record { nodes = length ends; edges = ends_of edges }) e < length ends)
      × (target (record { nodes = length ends; edges = ends_of edges }) e < length ends)
