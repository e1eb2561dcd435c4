-- The steps of the code are steps of the walk.
use Rattle.std.proofs.Common.{◌≡◌, ◌≢◌, ◌∙◌, ◌<◌, ◌≤◌, ◌+◌, ◌-◌, ◌++◌, ◌∷◌, [], ℕ, List, length, get_or, set, take, sym}
use Rattle.std.proofs.Common.{ap, ap₂, subst, refl, arith, inl, inr, ◌⊎◌, min, sum_by, vec_len}
use Rattle.std.proofs.lemmas.List.{take_more, take_all, length_push, get_or_push, get_or_default, set-append_right}
use Rattle.std.proofs.lemmas.Bool.{cases_lt, cases_eq}
use Rattle.ly_sets.specs.NumberSet.{NumberSet}
use Rattle.ly_sets.specs.SetMatrix.{Matrix}
use Rattle.ly_digraph.specs.Digraph.{Digraph, Reaches, source, target, IsEndBefore}
use Rattle.ly_digraph.specs.Least.{IsBetween}
use Rattle.ly_digraph.specs.Walk.{place, frame, begin, lowered, entered, Within, IsSeen, IsOpenPart, IsNext, IsWalk}
use Rattle.ly_digraph.specs.Search.{IsAt, IsAtFrame, top, IsWaiting, IsAdvanced, IsTurned, IsLowered, IsEntered}
use Rattle.ly_digraph.specs.Search.{next_target, Continues, waiting_from, steps_left, unseen_one, undone_one}
use Rattle.ly_digraph.specs.declared.walk.Place.{Place}
use Rattle.ly_digraph.specs.declared.walk.Place.TheVariants.{New, Open, Done}
use Rattle.ly_digraph.specs.declared.walk.Frame.{Frame}
use Rattle.ly_digraph.specs.declared.walk.Walk.{Walk}
use Rattle.ly_digraph.proofs.WalkLemmas.{GrowsAt, grows_nowhere, path_last, path_below, path_link, frame-push_last}
use Rattle.ly_digraph.proofs.WalkLemmas.{begin-past, next_edge, advance_walk, merge_walk, enter_walk, LinksTo}
use Rattle.ly_digraph.proofs.WalkLemmas.{place-set_other}
use Rattle.ly_digraph.proofs.UnionLemmas.{united, united_grows, united_joined, united_within, united_between}
use Rattle.ly_digraph.proofs.UnionLemmas.{between_none}
use Rattle.ly_digraph.proofs.CountLemmas.{waiting-advanced, sum_places-set}

-- the frames before the last
abbrev pub front : Walk → List Frame
front w = take (length w.path.items - 1) w.path.items

pub path_split : (fs : List Frame) → 0 < length fs → fs ≡ take (length fs - 1) fs ++ frame fs (length fs - 1) ∷ []
path_split fs some =
    let whole : length fs - 1 + 1 ≡ length fs = omega arith in
    sym (take_all (length fs) fs (omega arith)) ∙ ap (λ n. take n fs) (sym whole)
    ∙ take_more fs (length fs - 1) (record { node = 0; start = 0; low = 0 }) (omega arith)

pub at_front : {g : Digraph} {sets : List NumberSet} (w : Walk) → 0 < length w.path.items → IsAt g sets w
    → IsWalk g sets w.cursors.items w.places.items w.pending.items (front w ++ top w ∷ [])
at_front {g} {sets} w some at = subst (λ fs. IsWalk g sets w.cursors.items w.places.items w.pending.items fs)
    (path_split w.path.items some) at

-- the last frame, where it is known
pub top_is : (w : Walk) (fs : List Frame) (f : Frame) → w.path.items ≡ fs ++ f ∷ [] → top w ≡ f
top_is w fs f e = ap (λ xs. frame xs (length xs - 1)) e ∙ get_or_push fs f (record { node = 0; start = 0; low = 0 })
    (length (fs ++ f ∷ []) - 1) (omega (arith, length_push fs f))

-- The last frame goes on to its node's next edge, perhaps lower, and perhaps with a row that grew.
pub record IsGoingOn (g : Digraph) (m m' : Matrix) (w w' : Walk) : Type 0 where
  pub at : IsAt g m.sets w
  pub waits : IsWaiting g w
  pub advanced : IsAdvanced g (top w).node w.cursors.items w'.cursors.items
  pub places : w'.places ≡ w.places
  pub pending : w'.pending ≡ w.pending
  pub low : ℕ
  pub path : w'.path.items ≡ front w ++ lowered (top w) low ∷ []
  pub grows : GrowsAt m.sets m'.sets (top w).node
  pub low_le : low ≤ (top w).low
  pub low_reach : Reaches g (top w).node (get_or w.pending.items low 0)
  pub now : IsSeen g m'.sets w.places.items (lowered (top w) low) (length w.pending.items)
      (get_or w.cursors.items (top w).node 0 - 1)

module _ {g : Digraph} {m m' : Matrix} {w w' : Walk} where
  source_is : IsGoingOn g m m' w w' → source g (get_or w.cursors.items (top w).node 0 - 1) ≡ (top w).node
  source_is s = (s.at.marked.cursor (top w).node s.waits.waits).1

  next_is : (s : IsGoingOn g m m' w w')
      → IsEndBefore g (top w).node (get_or w.cursors.items (top w).node 0 - 1) s.advanced.to
  next_is s = subst (λ x. IsEndBefore g x (get_or w.cursors.items (top w).node 0 - 1) s.advanced.to)
      (source_is s) s.advanced.next

  pub going_at : IsGoingOn g m m' w w' → IsAt g m'.sets w'
  going_at s =
      let walk = advance_walk (front w) (top w) (at_front w s.waits.some s.at) s.grows s.waits.waits s.advanced.to
      (next_is s) s.low s.low_le s.low_reach s.now in
      subst (λ fs. IsWalk g m'.sets w'.cursors.items w'.places.items w'.pending.items fs) (sym s.path)
      (subst (λ v. IsWalk g m'.sets w'.cursors.items w'.places.items v.items (front w ++ lowered (top w) s.low ∷ []))
      (sym s.pending)
      (subst (λ v. IsWalk g m'.sets w'.cursors.items v.items w.pending.items (front w ++ lowered (top w) s.low ∷ []))
      (sym s.places)
      (subst (λ cs. IsWalk g m'.sets cs w.places.items w.pending.items (front w ++ lowered (top w) s.low ∷ []))
      (sym s.advanced.changed) walk)))

  pub going_waiting : IsGoingOn g m m' w w'
      → waiting_from 0 g.edges w'.cursors.items < waiting_from 0 g.edges w.cursors.items
  going_waiting s = subst (λ cs. waiting_from 0 g.edges cs < waiting_from 0 g.edges w.cursors.items)
      (sym s.advanced.changed)
      (waiting-advanced g w.cursors.items (top w).node s.advanced.to s.waits.inside s.waits.waits s.waits.within
      (source_is s) (next_is s).end_le)

  going_length : IsGoingOn g m m' w w' → length w'.path.items ≡ length w.path.items
  going_length s = ap length s.path ∙ length_push (front w) (lowered (top w) s.low)
      ∙ sym (length_push (front w) (top w)) ∙ sym (ap length (path_split w.path.items s.waits.some))

  pub going_fewer : IsGoingOn g m m' w w' → steps_left g w' < steps_left g w
  going_fewer s =
      let unseen : sum_by unseen_one w'.places.items ≡ sum_by unseen_one w.places.items
      = ap (λ v. sum_by unseen_one v.items) s.places in
      omega (arith, going_waiting s, unseen, going_length s, w.path.ok.0, w'.path.ok.0)

  -- at most one union was made
  pub going_on : IsGoingOn g m m' w w' → IsBetween g m.sets m'.sets → m'.width ≡ m.width → m'.changes ≤ m.changes + 1
      → Continues g m w m' w'
  going_on s between width changes = record {
    at = going_at s;
    between = between;
    long = s.grows.long;
    width = width;
    paid = (let undone : sum_by undone_one w'.places.items ≡ sum_by undone_one w.places.items
        = ap (λ v. sum_by undone_one v.items) s.places in omega (arith, going_waiting s, undone, changes));
    seen = λ x old e. old (ap (λ v. place v.items x) (sym s.places) ∙ e);
  }

-- where the edge that is looked at leads
pub next_reached : (g : Digraph) {sets : List NumberSet} (w : Walk) → IsAt g sets w → IsWaiting g w
    → Reaches g (top w).node (next_target g w)
next_reached g w at waits = next_edge (top w) (next_target g w) at.marked (waits.waits, refl)

-- the last frame's part
pub top_part : {g : Digraph} {sets : List NumberSet} (w : Walk) → IsAt g sets w → 0 < length w.path.items
    → IsOpenPart g sets w.cursors.items w.places.items w.pending.items (top w) (length w.pending.items)
top_part w at some = path_last (front w) (top w) (at_front w some at).path

-- the node of the last frame is pending, and its row is there
pub top_inside : {g : Digraph} {sets : List NumberSet} (w : Walk) → IsAt g sets w → 0 < length w.path.items
    → (top w).node < g.nodes
top_inside {g} w at some =
    let part = top_part w at some in
    let start : (top w).start < length w.pending.items = part.start_lt in
    subst (λ x. x < g.nodes) part.node (at.marked.pending (top w).start start).0

-- an edge to a pending node is looked at
pub meets : (g : Digraph) (m : Matrix) (w w' : Walk) (position : ℕ) → IsAt g m.sets w → IsWaiting g w
    → place w.places.items (next_target g w) ≡ Open position
    → IsAdvanced g (top w).node w.cursors.items w'.cursors.items → w'.places ≡ w.places → w'.pending ≡ w.pending
    → w'.path.items ≡ front w ++ lowered (top w) (min (top w).low position) ∷ []
    → IsGoingOn g m m w w'
meets g m w w' position at waits pends advanced places pending path = record {
  at = at;
  waits = waits;
  advanced = advanced;
  places = places;
  pending = pending;
  low = min (top w).low position;
  path = path;
  grows = grows_nowhere m.sets (top w).node;
  low_le = omega arith;
  low_reach = elim (cases_lt (top w).low position) [
    | inl lt ↦ subst (λ i. Reaches g (top w).node (get_or w.pending.items i 0))
        (let e : (top w).low ≡ min (top w).low position = omega arith in e) (top_part w at waits.some).low_reach
    | inr ge ↦ subst (λ i. Reaches g (top w).node (get_or w.pending.items i 0))
        (let e : position ≡ min (top w).low position = omega arith in e)
        (subst (λ x. Reaches g (top w).node x) (sym (at.marked.opened (next_target g w) position pends).1)
        (next_reached g w at waits))
  ];
  now = inr (
    position,
    pends,
    (let h : min (top w).low position ≤ position = omega arith in h),
    (at.marked.opened (next_target g w) position pends).0,
  );
}

-- an edge to a node that is done is looked at
pub absorbs : (g : Digraph) (m : Matrix) (w w' : Walk) → IsAt g m.sets w → IsWaiting g w
    → place w.places.items (next_target g w) ≡ Done
    → IsAdvanced g (top w).node w.cursors.items w'.cursors.items → w'.places ≡ w.places → w'.pending ≡ w.pending
    → w'.path ≡ w.path
    → IsGoingOn g m (united m (top w).node (next_target g w)) w w'
absorbs g m w w' at waits done advanced places pending path =
    let row_inside : (top w).node < length m.sets = (let a = top_inside w at waits.some in let b = at.marked.rows_len
    in omega arith) in
    let from : source g (get_or w.cursors.items (top w).node 0 - 1) ≡ (top w).node
    = (at.marked.cursor (top w).node waits.waits).1 in record {
      at = at;
      waits = waits;
      advanced = advanced;
      places = places;
      pending = pending;
      low = (top w).low;
      path = ap (λ v. v.items) path ∙ path_split w.path.items waits.some;
      grows = united_grows m (top w).node (next_target g w) row_inside;
      low_le = omega arith;
      low_reach = (top_part w at waits.some).low_reach;
      now = inl (
        done,
        subst (λ x. Within (united m (top w).node (next_target g w)).sets (next_target g w) x) (sym from)
            (united_within m (top w).node (next_target g w) row_inside),
      );
    }

-- a change of the last frame
pub set_last : (fs : List Frame) (f h : Frame) (i : ℕ) → i ≡ length fs → set (fs ++ f ∷ []) i h ≡ fs ++ h ∷ []
set_last fs f h i e =
    let none : i - length fs ≡ 0 = omega arith in
    set-append_right fs (f ∷ []) (length fs) i h refl (omega arith) ∙ ap (λ k. fs ++ set (f ∷ []) k h) none

-- a frame whose low position changed
pub lowered_is : (f h : Frame) (low low' : ℕ) → h ≡ f → low ≡ low'
    → record { node = h.node; start = h.start; low = low } ≡ lowered f low'
lowered_is f h low low' same e = ap₂ (λ g n. lowered g n) same e

-- ---- the same, for the calls that the code makes

advanced_from : (g : Digraph) (w v w' : Walk) → (top v).node ≡ (top w).node → v.cursors ≡ w.cursors
    → IsAdvanced g (top v).node v.cursors.items w'.cursors.items
    → IsAdvanced g (top w).node w.cursors.items w'.cursors.items
advanced_from g w v w' node cursors a =
    subst (λ x. IsAdvanced g x w.cursors.items w'.cursors.items) node
    (subst (λ cs. IsAdvanced g (top v).node cs.items w'.cursors.items) cursors a)

pub meets_by : (g : Digraph) (m : Matrix) (w v w' : Walk) (position : ℕ) → IsAt g m.sets w → IsWaiting g w
    → place w.places.items (next_target g w) ≡ Open position
    → IsLowered w v position → IsTurned g v w' → IsGoingOn g m m w w'
meets_by g m w v w' position at waits pends low turn =
    let path = low.path (front w) (top w) (path_split w.path.items waits.some) in
    meets g m w w' position at waits pends
    (advanced_from g w v w' (ap (λ f. f.node) (top_is v (front w) (lowered (top w) (min (top w).low position)) path))
    (ap (λ x. x.cursors) low.others) turn.cursors)
    (ap (λ x. x.places) turn.others ∙ ap (λ x. x.places) low.others)
    (ap (λ x. x.pending) turn.others ∙ ap (λ x. x.pending) low.others)
    (ap (λ x. x.path.items) turn.others ∙ path)

pub absorbs_by : (g : Digraph) (m : Matrix) (w w' : Walk) → IsAt g m.sets w → IsWaiting g w
    → place w.places.items (next_target g w) ≡ Done → IsTurned g w w'
    → IsGoingOn g m (united m (top w).node (next_target g w)) w w'
absorbs_by g m w w' at waits done turn = absorbs g m w w' at waits done turn.cursors (ap (λ x. x.places) turn.others)
    (ap (λ x. x.pending) turn.others) (ap (λ x. x.path) turn.others)

-- the row of the last frame's node
pub top_row : {g : Digraph} (m : Matrix) (w : Walk) → IsAt g m.sets w → 0 < length w.path.items
    → (top w).node < length m.sets
top_row m w at some = (let a = top_inside w at some in let b = at.marked.rows_len in omega arith)

-- the last frame, as it is read
pub top_read : (w : Walk) (n : ℕ) (f : Frame) → 0 < length w.path.items → n ≡ vec_len w.path
    → f ≡ get_or w.path.items (n - 1) f → f ≡ top w
top_read w n f some long read =
    let at : n - 1 ≡ length w.path.items - 1 = (let h = w.path.ok.0 in omega arith) in
    read ∙ ap (λ i. get_or w.path.items i f) at ∙ get_or_default w.path.items (length w.path.items - 1) f
    (record { node = 0; start = 0; low = 0 }) (omega arith)

-- ---- the last part joins the one before

module _ (g : Digraph) (m : Matrix) (w : Walk) (p : Frame) (at : IsAtFrame g m.sets w p)
    (spent : get_or w.cursors.items p.node 0 ≡ 0) (turns : p.low ≢ p.start) where
  merge_low : p.low < p.start
  merge_low = (let le : p.low ≤ p.start = (path_last w.path.items p at.path).low_le in omega arith)

  pub merge_some : 0 < length w.path.items
  merge_some = elim (cases_lt 0 (length w.path.items)) [
    | inl some ↦ some
    | inr none ↦ absurd (let first : begin w.path.items p.start 0 ≡ 0 = (path_below w.path.items p at.path).first
        in let lt : p.low < p.start = merge_low in omega (arith, begin-past w.path.items p.start 0 (omega arith)))
  ]

  merge_at : IsWalk g m.sets w.cursors.items w.places.items w.pending.items ((front w ++ top w ∷ []) ++ p ∷ [])
  merge_at = subst (λ fs. IsWalk g m.sets w.cursors.items w.places.items w.pending.items (fs ++ p ∷ []))
      (path_split w.path.items merge_some) at

  merge_before : IsOpenPart g m.sets w.cursors.items w.places.items w.pending.items (top w) p.start
  merge_before = path_last (front w) (top w) (path_below (front w ++ top w ∷ []) p merge_at.path)

  merge_start : p.start < length w.pending.items
  merge_start = (path_last w.path.items p at.path).start_lt

  merge_place : place w.places.items p.node ≡ Open p.start
  merge_place = sym (ap (place w.places.items) (path_last w.path.items p at.path).node)
      ∙ (at.marked.pending p.start merge_start).1

  merge_inside : (top w).node < g.nodes
  merge_inside
      = subst (λ x. x < g.nodes) merge_before.node (at.marked.pending (top w).start (let a : (top w).start < p.start
      = merge_before.start_lt in let b : p.start < length w.pending.items = merge_start in omega arith)).0

  pub merge_row : (top w).node < length m.sets
  merge_row = (let a = merge_inside in let b = at.marked.rows_len in omega arith)

  pub merge_row_from : p.node < length m.sets
  merge_row_from = (let a : get_or w.pending.items p.start 0 < g.nodes = (at.marked.pending p.start merge_start).0
      in let e = (path_last w.path.items p at.path).node in let b = at.marked.rows_len in omega arith)

  -- the edge that led to the part
  merge_next : IsNext g w.cursors.items (top w) p.node
  merge_next
      = subst (λ f. IsNext g w.cursors.items f p.node) (frame-push_last (front w) (top w) (length (front w)) refl)
      (path_link (front w ++ top w ∷ []) p merge_at.path (length (front w)) (sym (length_push (front w) (top w))))

  merge_way : Reaches g (top w).node p.node
  merge_way = next_edge (top w) p.node at.marked merge_next

  module _ (v : Walk) (low : IsLowered w v p.low) where
    merge_path : v.path.items ≡ front w ++ lowered (top w) (min (top w).low p.low) ∷ []
    merge_path = low.path (front w) (top w) (path_split w.path.items merge_some)

    merge_top : top v ≡ lowered (top w) (min (top w).low p.low)
    merge_top = top_is v (front w) (lowered (top w) (min (top w).low p.low)) merge_path

    merge_node : (top v).node ≡ (top w).node
    merge_node = ap (λ f. f.node) merge_top

    merge_cursors : v.cursors ≡ w.cursors
    merge_cursors = ap (λ x. x.cursors) low.others

    merged_at : IsAt g (united m (top w).node p.node).sets v
    merged_at =
        let choice : (min (top w).low p.low ≡ (top w).low) ⊎ (min (top w).low p.low ≡ p.low)
        = elim (cases_lt (top w).low p.low) [ inl lt ↦ inl (omega arith) | inr ge ↦ inr (omega arith) ] in
        let walk = merge_walk (front w) (top w) p merge_at (united_grows m (top w).node p.node merge_row)
        (united_joined m (top w).node p.node merge_row) spent merge_low (min (top w).low p.low)
        (omega arith, omega arith, choice) in
        subst (λ fs. IsWalk g (united m (top w).node p.node).sets v.cursors.items v.places.items v.pending.items fs)
        (sym merge_path)
        (subst (λ x. IsWalk g (united m (top w).node p.node).sets x.cursors.items x.places.items x.pending.items
        (front w ++ lowered (top w) (min (top w).low p.low) ∷ [])) (sym low.others) walk)

    pub merge_waits : IsWaiting g v
    merge_waits =
        let cursor : get_or v.cursors.items (top v).node 0 ≡ get_or w.cursors.items (top w).node 0
        = ap₂ (λ cs x. get_or cs.items x 0) merge_cursors merge_node in
        let len : length v.cursors.items ≡ length w.cursors.items = ap (λ cs. length cs.items) merge_cursors in
        let all : length w.cursors.items ≡ g.nodes = at.marked.cursors_len in
        let inside : (top w).node < g.nodes = merge_inside in
        let some : 0 < get_or w.cursors.items (top w).node 0 = merge_next.0 in
        let within : get_or w.cursors.items (top w).node 0 ≤ length g.edges = (at.marked.cursor (top w).node some).0
        in record {
          some = omega (arith, ap length merge_path, length_push (front w) (lowered (top w) (min (top w).low p.low)));
          inside = omega (arith, merge_node);
          waits = omega arith;
          within = omega arith;
        }

    merge_target : next_target g v ≡ p.node
    merge_target = ap₂ (λ cs x. target g (get_or cs.items x 0 - 1)) merge_cursors merge_node ∙ merge_next.1

    merge_going : (w' : Walk) → IsTurned g v w'
        → IsGoingOn g (united m (top w).node p.node) (united m (top w).node p.node) v w'
    merge_going w' turn = record {
      at = merged_at;
      waits = merge_waits;
      advanced = turn.cursors;
      places = ap (λ x. x.places) turn.others;
      pending = ap (λ x. x.pending) turn.others;
      low = (top v).low;
      path = ap (λ x. x.path.items) turn.others ∙ path_split v.path.items merge_waits.some;
      grows = grows_nowhere (united m (top w).node p.node).sets (top v).node;
      low_le = omega arith;
      low_reach = (top_part v merged_at merge_waits.some).low_reach;
      now = inr (
        p.start,
        ap₂ (λ ps x. place ps.items x) (ap (λ x. x.places) low.others) merge_target ∙ merge_place,
        (let e : (top v).low ≡ min (top w).low p.low = ap (λ f. f.low) merge_top in let lt : p.low < p.start = merge_low
            in omega arith),
        subst (λ x. p.start < length x.items) (sym (ap (λ x. x.pending) low.others)) merge_start,
      );
    }

    pub merge_on : (w' : Walk) → IsTurned g v w' → Continues g m w (united m (top w).node p.node) w'
    merge_on w' turn =
        let going = merge_going w' turn in
        let places : w'.places ≡ w.places = ap (λ x. x.places) turn.others ∙ ap (λ x. x.places) low.others in
        let undone : sum_by undone_one w'.places.items ≡ sum_by undone_one w.places.items
        = ap (λ x. sum_by undone_one x.items) places in
        let waiting : waiting_from 0 g.edges v.cursors.items ≡ waiting_from 0 g.edges w.cursors.items
        = ap (λ cs. waiting_from 0 g.edges cs.items) merge_cursors in record {
          at = going_at going;
          between = united_between m (top w).node p.node merge_row g merge_way;
          long = (united_grows m (top w).node p.node merge_row).long;
          width = refl;
          paid = omega (arith, going_waiting going, undone, waiting);
          seen = λ x old e. old (ap (λ ps. place ps.items x) (sym places) ∙ e);
        }

    pub merge_fewer : (w' : Walk) → IsTurned g v w' → steps_left g w' ≤ steps_left g w
    merge_fewer w' turn =
        let going = merge_going w' turn in
        let same : length v.path.items ≡ length w.path.items = ap length merge_path
        ∙ length_push (front w) (lowered (top w) (min (top w).low p.low)) ∙ sym (length_push (front w) (top w))
        ∙ sym (ap length (path_split w.path.items merge_some)) in
        let waiting : waiting_from 0 g.edges v.cursors.items ≡ waiting_from 0 g.edges w.cursors.items
        = ap (λ cs. waiting_from 0 g.edges cs.items) merge_cursors in
        let unseen : sum_by unseen_one v.places.items ≡ sum_by unseen_one w.places.items
        = ap (λ x. sum_by unseen_one x.places.items) low.others in
        omega (arith, going_fewer going, same, waiting, unseen, v.path.ok.0, w.path.ok.0)

-- ---- a node is entered

module _ {g : Digraph} (m : Matrix) {w w' : Walk} (x : ℕ) (at : IsAt g m.sets w) (inside : x < g.nodes)
    (is_new : place w.places.items x ≡ New) (linked : LinksTo g w.cursors.items w.path.items x)
    (e : IsEntered w w' x) where
  entered_inside : x < length w.places.items
  entered_inside = (let n : length w.places.items ≡ g.nodes = at.marked.places_len in omega arith)

  entered_places : w'.places.items ≡ set w.places.items x (Open (length w.pending.items))
  entered_places = e.places ∙ ap (λ n. set w.places.items x (Open n)) w.pending.ok.0

  pub enters_at : IsAt g m.sets w'
  enters_at =
      let walk = enter_walk at x inside is_new linked in
      subst (λ cs. IsWalk g m.sets cs.items w'.places.items w'.pending.items w'.path.items) (sym e.cursors)
      (subst (λ fs. IsWalk g m.sets w.cursors.items w'.places.items w'.pending.items fs)
      (sym (e.path ∙ ap (λ n. w.path.items ++ entered x n ∷ []) w.pending.ok.0))
      (subst (λ ns. IsWalk g m.sets w.cursors.items w'.places.items ns
      (w.path.items ++ entered x (length w.pending.items) ∷ [])) (sym e.pending)
      (subst (λ ps. IsWalk g m.sets w.cursors.items ps (w.pending.items ++ x ∷ [])
      (w.path.items ++ entered x (length w.pending.items) ∷ [])) (sym entered_places) walk)))

  entered_waiting : waiting_from 0 g.edges w'.cursors.items ≡ waiting_from 0 g.edges w.cursors.items
  entered_waiting = ap (λ cs. waiting_from 0 g.edges cs.items) e.cursors

  entered_sum : (f : Place → ℕ)
      → sum_by f w'.places.items + f New ≡ sum_by f w.places.items + f (Open (length w.pending.items))
  entered_sum f = ap (λ ps. sum_by f ps + f New) entered_places
      ∙ ap (λ v. sum_by f (set w.places.items x (Open (length w.pending.items))) + f v) (sym is_new)
      ∙ sum_places-set f w.places.items x (Open (length w.pending.items)) entered_inside

  pub enters_on : Continues g m w m w'
  enters_on = record {
    at = enters_at;
    between = between_none g m.sets;
    long = refl;
    width = refl;
    paid = (let undone : sum_by undone_one w'.places.items + 1 ≡ sum_by undone_one w.places.items + 1
        = entered_sum undone_one in omega (arith, entered_waiting));
    seen = λ y old n. elim (cases_eq y x) [
      | inl same ↦ old (ap (place w.places.items) same ∙ is_new)
      | inr ne ↦ old (sym (place-set_other w.places.items x (Open (length w.pending.items)) y ne)
          ∙ ap (λ ps. place ps y) (sym entered_places) ∙ n)
    ];
  }

-- an element that is read
pub read_is : {X : Type 0} (xs : List X) (i : ℕ) (x d : X) → i < length xs → x ≡ get_or xs i x → get_or xs i d ≡ x
read_is xs i x d lt read = get_or_default xs i d x lt ∙ sym read

-- the last frame is the only one that leads on
pub links_next : (g : Digraph) (w : Walk) (x : ℕ) → 0 < get_or w.cursors.items (top w).node 0 → next_target g w ≡ x
    → LinksTo g w.cursors.items w.path.items x
links_next g w x some is t e =
    let last : t ≡ length w.path.items - 1 = omega arith in
    subst (λ k. IsNext g w.cursors.items (frame w.path.items k) x) (sym last) (some, is)

-- a root is entered
pub roots_on : {g : Digraph} (m : Matrix) (w w' : Walk) (x : ℕ) → IsAt g m.sets w → x < g.nodes → vec_len w.path ≡ 0
    → place w.places.items x ≡ New → IsEntered w w' x → Continues g m w m w'
roots_on m w w' x at inside over is_new e =
    let none : length w.path.items ≡ 0 = (let ok = w.path.ok.0 in omega arith) in
    enters_on m x at inside is_new (λ t last. absurd (omega arith)) e
