-- A directed graph: nodes below a number, and a list of edges.
use Rattle.std.specs.Prelude.{◌≡◌, ◌≢◌, ◌<◌, ◌≤◌, ◌-◌, ℕ, List, slice_index_or, refl}
use Rattle.std.specs.Coded.{Coded, code_by, coded×, coded_ℕ, coded_list}
use Rattle.std.specs.List.{Contains}

pub record Digraph : Type 0 where
  pub nodes : ℕ
  pub edges : List (ℕ × ℕ)

abbrev pub digraph_code : Coded Digraph
digraph_code = code_by (ℕ × List (ℕ × ℕ)) (coded× coded_ℕ (coded_list (coded× coded_ℕ coded_ℕ)))
    (λ g. (g.nodes, g.edges)) (λ p. record { nodes = p.0; edges = p.1 }) (λ _. refl)

-- there is an edge i -> j
abbrev pub IsEdge : Digraph → ℕ → ℕ → Type 0
IsEdge g i j = Contains g.edges (i, j)

-- there is a path from one node to another, of any length
pub data Reaches (g : Digraph) : ℕ → ℕ → Type 0 where
  here : (i : ℕ) → Reaches g i i
  along : (i j k : ℕ) → IsEdge g i j → Reaches g j k → Reaches g i k

-- the two ends of edge number e
abbrev pub source : Digraph → ℕ → ℕ
source g e = (slice_index_or g.edges e (0, 0)).0

abbrev pub target : Digraph → ℕ → ℕ
target g e = (slice_index_or g.edges e (0, 0)).1

-- both ends of an edge are nodes
abbrev pub IsInside : ℕ → ℕ × ℕ → Type 0
IsInside nodes e = (e.0 < nodes) × (e.1 < nodes)

-- The edges of a node among the first `bound` edges are among the first `end`. The last of these is one of them, if
-- there is any.
pub record IsEndBefore (g : Digraph) (x bound end : ℕ) : Type 0 where
  pub end_le : end ≤ bound
  pub last : 0 < end → source g (end - 1) ≡ x
  pub none : (e : ℕ) → end ≤ e → e < bound → source g e ≢ x
