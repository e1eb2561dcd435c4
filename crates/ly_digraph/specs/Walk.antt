-- The state of the walk, and its invariant.
use Rattle.std.specs.Prelude.{◌≡◌, ◌<◌, ◌≤◌, ◌+◌, ◌-◌, ◌⊎◌, ℕ, List, length, slice_index, slice_index_or}
use Rattle.ly_sets.specs.NumberSet.{NumberSet, Member}
use Rattle.ly_sets.specs.SetMatrix.{row}
use Rattle.ly_digraph.specs.Digraph.{Digraph, Reaches, source, target}
use Rattle.ly_digraph.specs.declared.walk.Place.{Place}
use Rattle.ly_digraph.specs.declared.walk.Place.TheVariants.{New, Open, Done}
use Rattle.ly_digraph.specs.declared.walk.Frame.{Frame}

abbrev pub place : List Place → ℕ → Place
place ps x = slice_index_or ps x New

abbrev pub frame : List Frame → ℕ → Frame
frame fs t = slice_index_or fs t (record { node = 0; start = 0; low = 0 })

-- the start of frame t's part; past the last frame, the end
abbrev pub begin : List Frame → ℕ → ℕ → ℕ
begin fs end t = (slice_index_or fs t (record { node = 0; start = end; low = 0 })).start

-- row x contains row y
pub record Within (sets : List NumberSet) (y x : ℕ) : Type 0 where
  pub within : (n : ℕ) → Member (row sets y) n → Member (row sets x) n

-- what is known of an edge that was visited from the part of a frame
abbrev pub IsSeen : Digraph → List NumberSet → List Place → Frame → ℕ → ℕ → Type 0
IsSeen g sets ps f end e =
    ((place ps (target g e) ≡ Done) × Within sets (target g e) (source g e))
    ⊎ ((j : ℕ) × (place ps (target g e) ≡ Open j) × (f.low ≤ j) × (j < end))

-- the pending nodes from a frame's start to its part's end
pub record IsOpenPart (g : Digraph) (sets : List NumberSet) (cs : List ℕ) (ps : List Place) (ns : List ℕ) (f : Frame)
    (end : ℕ) : Type 0 where
  pub start_lt : f.start < end
  pub end_le : end ≤ length ns
  pub node : slice_index ns f.start ≡ f.node
  pub low_le : f.low ≤ f.start
  pub reach : (k : ℕ) → k < end → Reaches g (slice_index ns k) f.node
  pub low_reach : Reaches g f.node (slice_index ns f.low)
  pub held : (k : ℕ) → f.start ≤ k → k < end → Within sets (slice_index ns k) f.node
  pub spent : (k : ℕ) → f.start < k → k < end → slice_index cs (slice_index ns k) ≡ 0
  pub seen : (e k : ℕ) → e < length g.edges → f.start ≤ k → k < end → source g e ≡ slice_index ns k
      → slice_index cs (slice_index ns k) ≤ e → IsSeen g sets ps f end e

-- the edge of frame f that is being visited leads to a node
abbrev pub IsNext : Digraph → List ℕ → Frame → ℕ → Type 0
IsNext g cs f x = (0 < slice_index cs f.node) × (target g (slice_index cs f.node - 1) ≡ x)

-- The frames' parts follow one another, from position 0 to the end. The edge that the frame before is visiting leads to
-- each frame's node.
pub record IsPath (g : Digraph) (sets : List NumberSet) (cs : List ℕ) (ps : List Place) (ns : List ℕ) (fs : List Frame)
    (end : ℕ) : Type 0 where
  pub first : begin fs end 0 ≡ 0
  pub parts : (t : ℕ) → t < length fs → IsOpenPart g sets cs ps ns (frame fs t) (begin fs end (t + 1))
  pub links : (t : ℕ) → t + 1 < length fs → IsNext g cs (frame fs t) (frame fs (t + 1)).node

-- what the cursors and places imply for the nodes
pub record IsMarked (g : Digraph) (sets : List NumberSet) (cs : List ℕ) (ps : List Place) (ns : List ℕ) : Type 0 where
  pub cursors_len : length cs ≡ g.nodes
  pub places_len : length ps ≡ g.nodes
  pub rows_len : g.nodes ≤ length sets
  pub cursor : (x : ℕ) → 0 < slice_index cs x → (slice_index cs x ≤ length g.edges)
      × (source g (slice_index cs x - 1) ≡ x)
  pub pending : (k : ℕ) → k < length ns → (slice_index ns k < g.nodes) × (place ps (slice_index ns k) ≡ Open k)
  pub opened : (x k : ℕ) → place ps x ≡ Open k → (k < length ns) × (slice_index ns k ≡ x)
  pub fresh : (e : ℕ) → e < length g.edges → place ps (source g e) ≡ New → e < slice_index cs (source g e)
  pub done : (e : ℕ) → e < length g.edges → place ps (source g e) ≡ Done → (place ps (target g e) ≡ Done)
      × Within sets (target g e) (source g e)

pub record IsWalk (g : Digraph) (sets : List NumberSet) (cs : List ℕ) (ps : List Place) (ns : List ℕ)
    (fs : List Frame) : Type 0 where
  pub marked : IsMarked g sets cs ps ns
  pub path : IsPath g sets cs ps ns fs (length ns)

-- the frame of a node that is entered
abbrev pub entered : ℕ → ℕ → Frame
entered x n = record { node = x; start = n; low = n }

-- a frame that is known to reach lower
abbrev pub lowered : Frame → ℕ → Frame
lowered f low = record f { low = low }
