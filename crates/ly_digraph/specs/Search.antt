-- The effect of one step of the walk.
use Rattle.std.specs.Prelude.{◌≡◌, ◌≢◌, ◌<◌, ◌≤◌, ◌+◌, ◌*◌, ℕ, List, [], ◌∷◌, ◌++◌, ◌-◌, length, slice_index, slice_set}
use Rattle.std.specs.Prelude.{min, if◌then◌else◌, nat_lt, nat_le, ◌&&◌, sum_by, vec_len}
use Rattle.std.specs.FinSet as set
use Rattle.ly_sets.specs.NumberSet.{NumberSet}
use Rattle.ly_sets.specs.SetMatrix.{Matrix, row}
use Rattle.ly_digraph.specs.Digraph.{Digraph, source, target, IsEndBefore}
use Rattle.ly_digraph.specs.Least.{IsBetween}
use Rattle.ly_digraph.specs.Walk.{IsWalk, place, frame, entered, lowered}
use Rattle.ly_digraph.specs.declared.walk.Place.{Place}
use Rattle.ly_digraph.specs.declared.walk.Place.TheVariants.{New, Open, Done}
use Rattle.ly_digraph.specs.declared.walk.Frame.{Frame}
use Rattle.ly_digraph.specs.declared.walk.Walk.{Walk}

-- the walk's invariant holds
abbrev pub IsAt : Digraph → List NumberSet → Walk → Type 0
IsAt g sets w = IsWalk g sets w.cursors.items w.places.items w.pending.items w.path.items

-- the same for a walk whose last frame was removed
abbrev pub IsAtFrame : Digraph → List NumberSet → Walk → Frame → Type 0
IsAtFrame g sets w f = IsWalk g sets w.cursors.items w.places.items w.pending.items (w.path.items ++ f ∷ [])

-- the walk isn't in progress
abbrev pub IsOver : Walk → Type 0
IsOver w = vec_len w.path ≡ 0

-- the node was seen
abbrev pub WasSeen : Walk → ℕ → Type 0
WasSeen w x = place w.places.items x ≢ New

-- the last frame
abbrev pub top : Walk → Frame
top w = frame w.path.items (length w.path.items - 1)

-- the last frame's node has an edge still to be visited
pub record IsWaiting (g : Digraph) (w : Walk) : Type 0 where
  pub some : 0 < length w.path.items
  pub inside : (top w).node < length w.cursors.items
  pub waits : 0 < slice_index w.cursors.items (top w).node
  pub within : slice_index w.cursors.items (top w).node ≤ length g.edges

-- the node where that edge leads
abbrev pub next_target : Digraph → Walk → ℕ
next_target g w = target g (slice_index w.cursors.items (top w).node - 1)

-- the cursor of node x advanced to the next edge
pub record IsAdvanced (g : Digraph) (x : ℕ) (cursors cursors' : List ℕ) : Type 0 where
  pub to : ℕ
  pub changed : cursors' ≡ slice_set cursors x to
  pub next : IsEndBefore g (source g (slice_index cursors x - 1)) (slice_index cursors x - 1) to

-- the walk after `advance`: the last frame's node advanced to its next edge
pub record IsTurned (g : Digraph) (w w' : Walk) : Type 0 where
  pub cursors : IsAdvanced g (top w).node w.cursors.items w'.cursors.items
  pub others : w' ≡ record w { cursors = w'.cursors }

-- the walk after `lower`: the last frame is known to reach a position
pub record IsLowered (w w' : Walk) (position : ℕ) : Type 0 where
  pub path : (fs : List Frame) (f : Frame) → w.path.items ≡ fs ++ f ∷ []
      → w'.path.items ≡ fs ++ lowered f (min f.low position) ∷ []
  pub others : w' ≡ record w { path = w'.path }

-- the walk after `enter`
pub record IsEntered (w w' : Walk) (x : ℕ) : Type 0 where
  pub places : w'.places.items ≡ slice_set w.places.items x (Open (vec_len w.pending))
  pub pending : w'.pending.items ≡ w.pending.items ++ x ∷ []
  pub path : w'.path.items ≡ w.path.items ++ entered x (vec_len w.pending) ∷ []
  pub cursors : w'.cursors ≡ w.cursors

-- the number of edges, from number e on, still to be visited
abbrev pub waiting_from : ℕ → List (ℕ × ℕ) → List ℕ → ℕ
waiting_from e [] cursors = 0
waiting_from e (x ∷ edges) cursors = (if nat_lt e (slice_index cursors x.0) then 1 else 0) + waiting_from
    (e + 1) edges cursors

abbrev pub unseen_one : Place → ℕ
unseen_one New = 1
unseen_one (Open k) = 0
unseen_one Done = 0

abbrev pub undone_one : Place → ℕ
undone_one New = 1
undone_one (Open k) = 1
undone_one Done = 0

-- an upper bound of the steps that are left
abbrev pub steps_left : Digraph → Walk → ℕ
steps_left g w = waiting_from 0 g.edges w.cursors.items + 2 * sum_by unseen_one w.places.items + vec_len w.path

-- an upper bound of the unions that are left: one for each edge still to be visited, one for each node that isn't done
abbrev pub unions_left : Digraph → Walk → ℕ
unions_left g w = waiting_from 0 g.edges w.cursors.items + sum_by undone_one w.places.items

-- each pending node has its position
pub record IsListed (ps : List Place) (ns : List ℕ) : Type 0 where
  pub pending : (k : ℕ) → k < length ns → (slice_index ns k < length ps) × (place ps (slice_index ns k) ≡ Open k)
  pub opened : (x k : ℕ) → place ps x ≡ Open k → (k < length ns) × (slice_index ns k ≡ x)

-- the state of a node after the positions from `start` on and below `end` were closed
abbrev pub closed_place : ℕ → ℕ → Place → Place
closed_place start end New = New
closed_place start end (Open k) = if nat_le start k && nat_lt k end then Done else Open k
closed_place start end Done = Done

-- its row then: those past the start got the root's row
abbrev pub closed_row : ℕ → ℕ → Place → NumberSet → NumberSet → NumberSet
closed_row start end New s root = s
closed_row start end (Open k) s root = if nat_lt start k && nat_lt k end then set.union s root else s
closed_row start end Done s root = s

-- the nodes at the positions from `start` on and below `end` are done and have the row of the root, which is at `start`
pub record IsClosed (m m' : Matrix) (ps ps' : List Place) (start end root : ℕ) : Type 0 where
  pub places_len : length ps' ≡ length ps
  pub places : (x : ℕ) → place ps' x ≡ closed_place start end (place ps x)
  pub long : length m'.sets ≡ length m.sets
  pub rows : (x : ℕ) → row m'.sets x ≡ closed_row start end (place ps x) (row m.sets x) (row m.sets root)
  pub width : m'.width ≡ m.width
  pub paid : m'.changes + sum_by undone_one ps' ≤ m.changes + sum_by undone_one ps
  pub unseen : sum_by unseen_one ps' ≡ sum_by unseen_one ps

-- the effect of a part of the walk on the walk and on the matrix
pub record Continues (g : Digraph) (m : Matrix) (w : Walk) (m' : Matrix) (w' : Walk) : Type 0 where
  pub at : IsAt g m'.sets w'
  pub between : IsBetween g m.sets m'.sets
  pub long : length m'.sets ≡ length m.sets
  pub width : m'.width ≡ m.width
  pub paid : m'.changes + unions_left g w' ≤ m.changes + unions_left g w
  pub seen : (x : ℕ) → place w.places.items x ≢ New → place w'.places.items x ≢ New
