-- The steps of the walk keep what it keeps.
use Rattle.std.proofs.Common.{◌≡◌, ◌≢◌, ◌∙◌, ◌<◌, ◌≤◌, ◌+◌, ◌-◌, ◌++◌, ◌∷◌, [], ℕ, zero, suc, List, length, get_or, set}
use Rattle.std.proofs.Common.{take, sym, ap, subst, refl, arith, inl, inr, ◌⊎◌, nat_lt, if◌then◌else◌}
use Rattle.std.proofs.lemmas.List.{get_or_default, get_or_past, get_or_append_left, get_or_push, length_push}
use Rattle.std.proofs.lemmas.List.{get_or-set_other, get_or-set_same, get_or-take, length-take-le}
use Rattle.std.proofs.lemmas.Bool.{cases_eq, cases_lt}
use Rattle.std.proofs.lemmas.List.Elements.{Contains-get_or}
use Rattle.std.proofs.Math.ListN.{length-set}
use Rattle.ly_sets.specs.NumberSet.{NumberSet, Member}
use Rattle.ly_sets.specs.SetMatrix.{row}
use Rattle.ly_digraph.specs.Digraph.{Digraph, IsEdge, Reaches, source, target, IsEndBefore}
use Rattle.ly_digraph.specs.Digraph.Reaches.{here, along}
use Rattle.ly_digraph.specs.declared.walk.Place.{Place}
use Rattle.ly_digraph.specs.declared.walk.Place.TheVariants.{New, Open, Done}
use Rattle.ly_digraph.specs.declared.walk.Frame.{Frame}
use Rattle.ly_digraph.specs.Walk.{place, frame, begin, Within, IsSeen, IsOpenPart, IsNext, IsPath, IsMarked, IsWalk}
use Rattle.ly_digraph.specs.Walk.{entered, lowered}

-- ---- ways

pub reaches_on : {g : Digraph} {i j k : ℕ} → Reaches g i j → Reaches g j k → Reaches g i k
reaches_on (here i) q = q
reaches_on (along i j k e p) q = along _ _ _ e (reaches_on p q)

-- ---- where the frames' parts begin

abbrev ending : ℕ → Frame
ending n = record { node = 0; start = n; low = 0 }

pub begin-frame : (fs : List Frame) (end t : ℕ) → t < length fs → begin fs end t ≡ (frame fs t).start
begin-frame fs end t lt = ap (λ f. f.start) (get_or_default fs t (ending end) (ending 0) lt)

pub begin-past : (fs : List Frame) (end t : ℕ) → length fs ≤ t → begin fs end t ≡ end
begin-past fs end t le = ap (λ f. f.start) (get_or_past fs t (ending end) le)

frame-push : (fs : List Frame) (f : Frame) (t : ℕ) → t < length fs → frame (fs ++ f ∷ []) t ≡ frame fs t
frame-push fs f t lt = get_or_append_left fs (f ∷ []) (ending 0) t lt

pub frame-push_last : (fs : List Frame) (f : Frame) (t : ℕ) → t ≡ length fs → frame (fs ++ f ∷ []) t ≡ f
frame-push_last fs f t e = get_or_push fs f (ending 0) t (sym e)

begin-push : (fs : List Frame) (f : Frame) (end t : ℕ) → t ≤ length fs → begin (fs ++ f ∷ []) end t ≡ begin fs f.start t
begin-push fs f end t le = elim (cases_lt t (length fs)) [
  | inl lt ↦ ap (λ f. f.start) (get_or_append_left fs (f ∷ []) (ending end) t lt
      ∙ get_or_default fs t (ending end) (ending f.start) lt)
  | inr ge ↦ ap (λ f. f.start) (get_or_push fs f (ending end) t (omega arith)) ∙ sym (begin-past fs f.start t ge)
]

begin-push_last : (fs : List Frame) (f : Frame) (end t : ℕ) → length fs < t → begin (fs ++ f ∷ []) end t ≡ end
begin-push_last fs f end t lt = begin-past (fs ++ f ∷ []) end t (omega (arith, length_push fs f))

-- no part begins past the path's end
begin_le : {g : Digraph} {sets : List NumberSet} {cs : List ℕ} {ps : List Place} {ns : List ℕ} {fs : List Frame}
    {end : ℕ}
    → IsPath g sets cs ps ns fs end → (m t : ℕ) → t + m ≡ length fs → begin fs end t ≤ end
begin_le {fs = fs} {end = end} p zero t e = omega (arith, begin-past fs end t (omega arith))
begin_le {fs = fs} {end = end} p (suc m) t e =
    let lt : t < length fs = omega arith in
    let h : (frame fs t).start < begin fs end (t + 1) = (p.parts t lt).start_lt in
    omega (arith, h, begin-frame fs end t lt, begin_le p m (t + 1) (omega arith))

-- ---- what changes elsewhere leaves a part alone

pub record IsAlike (sets sets' : List NumberSet) (cs cs' : List ℕ) (ps ps' : List Place) (ns ns' : List ℕ)
    (end : ℕ) : Type 0 where
  pub long : end ≤ length ns'
  pub nodes : (k : ℕ) → k < end → get_or ns' k 0 ≡ get_or ns k 0
  pub cursors : (k : ℕ) → k < end → get_or cs' (get_or ns k 0) 0 ≡ get_or cs (get_or ns k 0) 0
  pub opened : (x j : ℕ) → place ps x ≡ Open j → j < end → place ps' x ≡ Open j
  pub done : (x : ℕ) → place ps x ≡ Done → place ps' x ≡ Done
  pub rows : (k : ℕ) → k < end → row sets' (get_or ns k 0) ≡ row sets (get_or ns k 0)
  pub rows_done : (x : ℕ) → place ps x ≡ Done → row sets' x ≡ row sets x

alike_below : {sets sets' : List NumberSet} {cs cs' : List ℕ} {ps ps' : List Place} {ns ns' : List ℕ} {end : ℕ} (m : ℕ)
    → m ≤ end → IsAlike sets sets' cs cs' ps ps' ns ns' end → IsAlike sets sets' cs cs' ps ps' ns ns' m
alike_below m le a = record {
  long = (let h = a.long in omega arith);
  nodes = λ k lt. a.nodes k (omega arith);
  cursors = λ k lt. a.cursors k (omega arith);
  opened = λ x j o lt. a.opened x j o (omega arith);
  done = a.done;
  rows = λ k lt. a.rows k (omega arith);
  rows_done = a.rows_done;
}

within_same : {sets sets' : List NumberSet} {y x : ℕ} → row sets' y ≡ row sets y → row sets' x ≡ row sets x
    → Within sets y x → Within sets' y x
within_same ey ex w
    = record { within = λ n m. subst (λ s. Member s n) (sym ex) (w.within n (subst (λ s. Member s n) ey m)) }

keep_part : {g : Digraph} {sets sets' : List NumberSet} {cs cs' : List ℕ} {ps ps' : List Place} {ns ns' : List ℕ}
    {f : Frame} {end : ℕ}
    → IsAlike sets sets' cs cs' ps ps' ns ns' end → IsOpenPart g sets cs ps ns f end
    → IsOpenPart g sets' cs' ps' ns' f end
keep_part {g} {sets} {sets'} {cs} {cs'} {ps} {ps'} {ns} {ns'} {f} {end} a p =
    let lt : f.start < end = p.start_lt in
    let le : f.low ≤ f.start = p.low_le in
    let node_row : row sets' f.node ≡ row sets f.node = subst (λ x. row sets' x ≡ row sets x) p.node (a.rows f.start lt)
    in record {
      start_lt = lt;
      end_le = a.long;
      node = a.nodes f.start lt ∙ p.node;
      low_le = le;
      reach = λ k lt. subst (λ x. Reaches g x f.node) (sym (a.nodes k lt)) (p.reach k lt);
      low_reach = subst (λ x. Reaches g f.node x) (sym (a.nodes f.low (omega arith))) p.low_reach;
      held = λ k lo hi. subst (λ x. Within sets' x f.node) (sym (a.nodes k hi))
          (within_same (a.rows k hi) node_row (p.held k lo hi));
      spent = λ k lo hi. ap (λ x. get_or cs' x 0) (a.nodes k hi) ∙ a.cursors k hi ∙ p.spent k lo hi;
      seen = λ e k h lo hi from at.
          let same = a.nodes k hi in
          let was = p.seen e k h lo hi (from ∙ same) (let q : get_or cs' (get_or ns' k 0) 0
          ≡ get_or cs (get_or ns k 0) 0 = ap (λ x. get_or cs' x 0) same ∙ a.cursors k hi in omega arith) in
          elim was [
            | inl d ↦
                inl (
                  a.done _ d.0,
                  within_same (a.rows_done _ d.0)
                      (subst (λ x. row sets' x ≡ row sets x) (sym (from ∙ same)) (a.rows k hi)) d.1,
                )
            | inr o ↦ inr (o.0, a.opened _ _ o.1 o.3, o.2, o.3)
          ];
    }

keep_path : {g : Digraph} {sets sets' : List NumberSet} {cs cs' : List ℕ} {ps ps' : List Place} {ns ns' : List ℕ}
    {fs : List Frame} {end : ℕ}
    → IsAlike sets sets' cs cs' ps ps' ns ns' end → IsPath g sets cs ps ns fs end → IsPath g sets' cs' ps' ns' fs end
keep_path {g} {sets} {sets'} {cs} {cs'} {ps} {ps'} {ns} {ns'} {fs} {end} a p = record {
  first = p.first;
  parts = λ t lt. keep_part
      (alike_below (begin fs end (t + 1)) (begin_le p (length fs - (t + 1)) (t + 1) (omega arith)) a) (p.parts t lt);
  links = λ t lt.
      let part = p.parts t (omega arith) in
      let below : begin fs end (t + 1) ≤ end = begin_le p (length fs - (t + 1)) (t + 1) (omega arith) in
      let start : (frame fs t).start < begin fs end (t + 1) = part.start_lt in
      let same : get_or cs' (frame fs t).node 0 ≡ get_or cs (frame fs t).node 0
      = subst (λ x. get_or cs' x 0 ≡ get_or cs x 0) part.node (a.cursors (frame fs t).start (omega arith)) in
      subst (λ c. (0 < c) × (target g (c - 1) ≡ (frame fs (t + 1)).node)) (sym same) (p.links t lt);
}

-- ---- one more frame at the end of the path

-- the last frame looks at an edge to a node
abbrev pub LinksTo : Digraph → List ℕ → List Frame → ℕ → Type 0
LinksTo g cs fs x = (t : ℕ) → t + 1 ≡ length fs → IsNext g cs (frame fs t) x

module _ {g : Digraph} {sets : List NumberSet} {cs : List ℕ} {ps : List Place} {ns : List ℕ} (fs : List Frame)
    (f : Frame) {end : ℕ} where
  pub path_below : IsPath g sets cs ps ns (fs ++ f ∷ []) end → IsPath g sets cs ps ns fs f.start
  path_below p =
      let long = length_push fs f in record {
        first = sym (begin-push fs f end 0 (omega arith)) ∙ p.first;
        parts = λ t lt. subst (λ h. IsOpenPart g sets cs ps ns h (begin fs f.start (t + 1))) (frame-push fs f t lt)
            (subst (λ b. IsOpenPart g sets cs ps ns (frame (fs ++ f ∷ []) t) b)
            (begin-push fs f end (t + 1) (omega arith))
            (p.parts t (omega arith)));
        links = λ t lt. subst (λ h. IsNext g cs (frame fs t) h.node) (frame-push fs f (t + 1) lt)
            (subst (λ h. IsNext g cs h (frame (fs ++ f ∷ []) (t + 1)).node) (frame-push fs f t (omega arith))
            (p.links t (omega arith)));
      }

  pub path_last : IsPath g sets cs ps ns (fs ++ f ∷ []) end → IsOpenPart g sets cs ps ns f end
  path_last p =
      let long = length_push fs f in
      subst (λ h. IsOpenPart g sets cs ps ns h end) (frame-push_last fs f (length fs) refl)
      (subst (λ b. IsOpenPart g sets cs ps ns (frame (fs ++ f ∷ []) (length fs)) b)
      (begin-push_last fs f end (length fs + 1) (omega arith)) (p.parts (length fs) (omega arith)))

  pub path_link : IsPath g sets cs ps ns (fs ++ f ∷ []) end → LinksTo g cs fs f.node
  path_link p t e =
      let long = length_push fs f in
      subst (λ h. IsNext g cs (frame fs t) h.node) (frame-push_last fs f (t + 1) e)
      (subst (λ h. IsNext g cs h (frame (fs ++ f ∷ []) (t + 1)).node) (frame-push fs f t (omega arith))
      (p.links t (omega arith)))

  path_push : IsPath g sets cs ps ns fs f.start → IsOpenPart g sets cs ps ns f end → LinksTo g cs fs f.node
      → IsPath g sets cs ps ns (fs ++ f ∷ []) end
  path_push p part link =
      let long = length_push fs f in record {
        first = begin-push fs f end 0 (omega arith) ∙ p.first;
        parts = λ t lt. elim (cases_lt t (length fs)) [
          | inl h ↦ subst (λ h. IsOpenPart g sets cs ps ns h (begin (fs ++ f ∷ []) end (t + 1)))
              (sym (frame-push fs f t h))
              (subst (λ b. IsOpenPart g sets cs ps ns (frame fs t) b) (sym (begin-push fs f end (t + 1) (omega arith)))
              (p.parts t h))
          | inr h ↦ subst (λ h. IsOpenPart g sets cs ps ns h (begin (fs ++ f ∷ []) end (t + 1)))
              (sym (frame-push_last fs f t (omega arith)))
              (subst (λ b. IsOpenPart g sets cs ps ns f b) (sym (begin-push_last fs f end (t + 1) (omega arith))) part)
        ];
        links = λ t lt. subst (λ h. IsNext g cs h (frame (fs ++ f ∷ []) (t + 1)).node)
            (sym (frame-push fs f t (omega arith)))
            (elim (cases_lt (t + 1) (length fs)) [
              | inl h ↦ subst (λ h. IsNext g cs (frame fs t) h.node) (sym (frame-push fs f (t + 1) h)) (p.links t h)
              | inr h ↦ subst (λ h. IsNext g cs (frame fs t) h.node) (sym (frame-push_last fs f (t + 1) (omega arith)))
                  (link t (omega arith))
            ]);
      }

-- ---- edges

pub edge_at : (g : Digraph) (e : ℕ) → e < length g.edges → IsEdge g (source g e) (target g e)
edge_at g e lt = Contains-get_or g.edges e (0, 0) lt

-- the edge that the last frame looks at
pub next_edge : {g : Digraph} {sets : List NumberSet} {cs : List ℕ} {ps : List Place} {ns : List ℕ} (f : Frame) (x : ℕ)
    → IsMarked g sets cs ps ns → IsNext g cs f x → Reaches g f.node x
next_edge {g} {cs = cs} f x m n =
    let c = m.cursor f.node n.0 in
    let le : get_or cs f.node 0 ≤ length g.edges = c.0 in
    let pos : 0 < get_or cs f.node 0 = n.0 in
    let edge : IsEdge g f.node x
    = subst (λ i. IsEdge g i x) c.1 (subst (λ j. IsEdge g (source g (get_or cs f.node 0 - 1)) j) n.1
    (edge_at g (get_or cs f.node 0 - 1) (omega arith))) in
    along _ _ _ edge (here x)

-- ---- a node is entered

pub place-set_same : (ps : List Place) (x : ℕ) (v : Place) → x < length ps → place (set ps x v) x ≡ v
place-set_same ps x v lt = get_or-set_same ps x v New lt

pub place-set_other : (ps : List Place) (x : ℕ) (v : Place) (y : ℕ) → y ≢ x → place (set ps x v) y ≡ place ps y
place-set_other ps x v y ne = get_or-set_other ps x y v New ne

module _ {g : Digraph} {sets : List NumberSet} {cs : List ℕ} {ps : List Place} {ns : List ℕ} {fs : List Frame}
    (w : IsWalk g sets cs ps ns fs) (x : ℕ)
    (inside : x < g.nodes) (is_new : place ps x ≡ New) (linked : LinksTo g cs fs x) where
  enter_room : x < length ps
  enter_room = (let e : length ps ≡ g.nodes = w.marked.places_len in omega arith)

  enter_other : (y : ℕ) (v : Place) → place ps y ≡ v → v ≢ New → place (set ps x (Open (length ns))) y ≡ v
  enter_other y v e old = place-set_other ps x _ y (λ same. old (sym e ∙ ap (place ps) same ∙ is_new)) ∙ e

  enter_alike : IsAlike sets sets cs cs ps (set ps x (Open (length ns))) ns (ns ++ x ∷ []) (length ns)
  enter_alike = record {
    long = omega (arith, length_push ns x);
    nodes = λ k lt. get_or_append_left ns (x ∷ []) 0 k lt;
    cursors = λ k lt. refl;
    opened = λ y j o lt. enter_other y (Open j) o (λ e. cc);
    done = λ y d. enter_other y Done d (λ e. cc);
    rows = λ k lt. refl;
    rows_done = λ y d. refl;
  }

  enter_reach : (k : ℕ) → k < length ns → Reaches g (get_or ns k 0) x
  enter_reach k lt = by (length fs) refl
    where
      by : (m : ℕ) → m ≡ length fs → Reaches g (get_or ns k 0) x
      by zero e = absurd (omega (arith, w.path.first, begin-past fs (length ns) 0 (omega arith)))
      by (suc m) e =
          let part = w.path.parts m (omega arith) in
          let at : k < begin fs (length ns) (m + 1) = omega (arith, begin-past fs (length ns) (m + 1) (omega arith)) in
          reaches_on (part.reach k at) (next_edge (frame fs m) x w.marked (linked m (omega arith)))

  enter_part : IsOpenPart g sets cs (set ps x (Open (length ns))) (ns ++ x ∷ []) (entered x (length ns))
      (length (ns ++ x ∷ []))
  enter_part =
      let long : length (ns ++ x ∷ []) ≡ length ns + 1 = length_push ns x in
      let last : get_or (ns ++ x ∷ []) (length ns) 0 ≡ x = get_or_push ns x 0 (length ns) refl in
      let only : (k : ℕ) → length ns ≤ k → k < length (ns ++ x ∷ []) → k ≡ length ns = λ k lo hi. omega arith
      in record {
        start_lt = omega arith;
        end_le = omega arith;
        node = last;
        low_le = omega arith;
        reach = λ k lt. elim (cases_lt k (length ns)) [
          | inl h ↦ subst (λ y. Reaches g y x) (sym (get_or_append_left ns (x ∷ []) 0 k h)) (enter_reach k h)
          | inr h ↦ subst (λ y. Reaches g y x) (sym (ap (λ i. get_or (ns ++ x ∷ []) i 0) (only k h lt) ∙ last)) (here x)
        ];
        low_reach = subst (λ y. Reaches g x y) (sym last) (here x);
        held = λ k lo hi. subst (λ y. Within sets y x) (sym (ap (λ i. get_or (ns ++ x ∷ []) i 0) (only k lo hi) ∙ last))
            (record { within = λ n m. m });
        spent = λ k lo hi. absurd (omega arith);
        seen = λ e k h lo hi from at.
            let is : source g e ≡ x = from ∙ ap (λ i. get_or (ns ++ x ∷ []) i 0) (only k lo hi) ∙ last in
            let fresh : e < get_or cs (source g e) 0 = w.marked.fresh e h (ap (place ps) is ∙ is_new) in
            absurd (let same : get_or cs (source g e) 0 ≡ get_or cs (get_or (ns ++ x ∷ []) k 0) 0
            = ap (λ y. get_or cs y 0) from in omega arith);
      }

  enter_marked : IsMarked g sets cs (set ps x (Open (length ns))) (ns ++ x ∷ [])
  enter_marked =
      let m = w.marked in
      let long : length (ns ++ x ∷ []) ≡ length ns + 1 = length_push ns x in
      let last : get_or (ns ++ x ∷ []) (length ns) 0 ≡ x = get_or_push ns x 0 (length ns) refl in
      let back : (y : ℕ) (v : Place) → v ≢ Open (length ns) → place (set ps x (Open (length ns))) y ≡ v
      → (y ≢ x) × (place ps y ≡ v) = λ y v other e. elim (cases_eq y x) [
        | inl same ↦
            absurd (other (sym e ∙ ap (place (set ps x (Open (length ns)))) same ∙ place-set_same ps x _ enter_room))
        | inr ne ↦ (ne, sym (place-set_other ps x _ y ne) ∙ e)
      ] in record {
        cursors_len = m.cursors_len;
        places_len = length-set ps x _ ∙ m.places_len;
        rows_len = m.rows_len;
        cursor = m.cursor;
        pending = λ k lt. elim (cases_lt k (length ns)) [
          | inl h ↦
              let same : get_or (ns ++ x ∷ []) k 0 ≡ get_or ns k 0 = get_or_append_left ns (x ∷ []) 0 k h in
              let was = m.pending k h in (
                subst (λ y. y < g.nodes) (sym same) was.0,
                ap (place (set ps x (Open (length ns)))) same
                    ∙ enter_other (get_or ns k 0) (Open k) was.1 (λ e. cc),
              )
          | inr h ↦
              let same : get_or (ns ++ x ∷ []) k 0 ≡ x = ap (λ i. get_or (ns ++ x ∷ []) i 0) (let e : k ≡ length ns
              = omega arith in e) ∙ last in (
                subst (λ y. y < g.nodes) (sym same) inside,
                ap (place (set ps x (Open (length ns)))) same
                    ∙ place-set_same ps x _ enter_room ∙ ap Open (let e : length ns ≡ k = omega arith in e),
              )
        ];
        opened = λ y k o. elim (cases_eq y x) [
          | inl same ↦
              let e : Open k ≡ Open (length ns) = sym o ∙ ap (place (set ps x (Open (length ns)))) same
              ∙ place-set_same ps x _ enter_room in
              let at : k ≡ length ns = cc in
              (omega arith, ap (λ i. get_or (ns ++ x ∷ []) i 0) at ∙ last ∙ sym same)
          | inr ne ↦
              let was = m.opened y k (sym (place-set_other ps x _ y ne) ∙ o) in
              let lt : k < length ns = was.0 in
              (omega arith, get_or_append_left ns (x ∷ []) 0 k lt ∙ was.1)
        ];
        fresh = λ e h n. m.fresh e h (back (source g e) New (λ e. cc) n).1;
        done = λ e h d.
            let was = m.done e h (back (source g e) Done (λ e. cc) d).1 in
            (enter_other (target g e) Done was.0 (λ e. cc), was.1);
      }

  pub enter_walk : IsWalk g sets cs (set ps x (Open (length ns))) (ns ++ x ∷ []) (fs ++ entered x (length ns) ∷ [])
  enter_walk = record {
    marked = enter_marked;
    path = path_push fs (entered x (length ns)) (keep_path enter_alike w.path) enter_part linked;
  }

-- ---- only one row grows

pub record GrowsAt (sets sets' : List NumberSet) (p : ℕ) : Type 0 where
  pub long : length sets' ≡ length sets
  pub rest : (x : ℕ) → x ≢ p → row sets' x ≡ row sets x
  pub grown : (x n : ℕ) → Member (row sets x) n → Member (row sets' x) n

pub grows_nowhere : (sets : List NumberSet) (p : ℕ) → GrowsAt sets sets p
grows_nowhere sets p = record { long = refl; rest = λ x ne. refl; grown = λ x n m. m }

within_grown : {sets sets' : List NumberSet} {p y x : ℕ} → GrowsAt sets sets' p → y ≢ p → Within sets y x
    → Within sets' y x
within_grown {y = y} {x = x} c ne w
    = record { within = λ n m. c.grown x n (w.within n (subst (λ s. Member s n) (c.rest y ne) m)) }

pub within_itself : (sets : List NumberSet) (x : ℕ) → Within sets x x
within_itself sets x = record { within = λ n m. m }

-- what was seen stays seen where the row of a pending node grows, the frame reaches lower and the part grows longer
seen_grown : (g : Digraph) {sets sets' : List NumberSet} (ps : List Place) (f f' : Frame) (end end' e p : ℕ)
    → GrowsAt sets sets' p → place ps p ≢ Done → f'.low ≤ f.low → end ≤ end' → IsSeen g sets ps f end e
    → IsSeen g sets' ps f' end' e
seen_grown g ps f f' end end' e p c pends low le was = elim was [
  | inl d ↦ inl (d.0, within_grown c (λ same. pends (sym (ap (place ps) same) ∙ d.0)) d.1)
  | inr o ↦ inr (o.0, o.1, (let a : f.low ≤ o.0 = o.2 in omega arith), (let b : o.0 < end = o.3 in omega arith))
]

-- two pending nodes are one only at one position
pub pending_one : {g : Digraph} {sets : List NumberSet} {cs : List ℕ} {ps : List Place} {ns : List ℕ}
    → IsMarked g sets cs ps ns → (j k : ℕ) → j < length ns → k < length ns → get_or ns j 0 ≡ get_or ns k 0 → j ≡ k
pending_one {ps = ps} m j k a b e =
    let same : Open j ≡ Open k = sym (m.pending j a).1 ∙ ap (place ps) e ∙ (m.pending k b).1 in cc

-- ---- the cursor of the last frame goes on to the next edge

module _ {g : Digraph} {sets sets' : List NumberSet} {cs : List ℕ} {ps : List Place} {ns : List ℕ} (fs : List Frame)
    (f : Frame) (w : IsWalk g sets cs ps ns (fs ++ f ∷ []))
    (c : GrowsAt sets sets' f.node) (some : 0 < get_or cs f.node 0) (to : ℕ)
    (next : IsEndBefore g f.node (get_or cs f.node 0 - 1) to)
    (low : ℕ) (low_le : low ≤ f.low) (low_reach : Reaches g f.node (get_or ns low 0))
    (now : IsSeen g sets' ps (lowered f low) (length ns) (get_or cs f.node 0 - 1)) where
  advance_part : IsOpenPart g sets cs ps ns f (length ns)
  advance_part = path_last fs f w.path

  advance_start : f.start < length ns
  advance_start = advance_part.start_lt

  -- the frame's node is pending
  advance_open : place ps f.node ≡ Open f.start
  advance_open = sym (ap (place ps) advance_part.node) ∙ (w.marked.pending f.start advance_start).1

  advance_not_done : place ps f.node ≢ Done
  advance_not_done d = let e : Open f.start ≡ Done = sym advance_open ∙ d in cc

  advance_inside : f.node < length cs
  advance_inside = (let h : get_or ns f.start 0 < g.nodes = (w.marked.pending f.start advance_start).0
      in let e = advance_part.node in let l : length cs ≡ g.nodes = w.marked.cursors_len in omega arith)

  advance_apart : (k : ℕ) → k < length ns → k ≢ f.start → get_or ns k 0 ≢ f.node
  advance_apart k lt ne same = ne (pending_one w.marked k f.start lt advance_start (same ∙ sym advance_part.node))

  advance_other : (x : ℕ) → x ≢ f.node → get_or (set cs f.node to) x 0 ≡ get_or cs x 0
  advance_other x ne = get_or-set_other cs f.node x to 0 ne

  advance_same : get_or (set cs f.node to) f.node 0 ≡ to
  advance_same = get_or-set_same cs f.node to 0 advance_inside

  advance_alike : IsAlike sets sets' cs (set cs f.node to) ps ps ns ns f.start
  advance_alike = record {
    long = (let lt : f.start < length ns = advance_start in omega arith);
    nodes = λ k lt. refl;
    cursors = λ k lt. advance_other (get_or ns k 0) (advance_apart k (let l : f.start < length ns = advance_start
        in omega arith) (λ e. omega arith));
    opened = λ x j o lt. o;
    done = λ x d. d;
    rows = λ k lt. c.rest (get_or ns k 0) (advance_apart k (let l : f.start < length ns = advance_start in omega arith)
        (λ e. omega arith));
    rows_done = λ x d. c.rest x (λ same. advance_not_done (sym (ap (place ps) same) ∙ d));
  }

  advance_new_part : IsOpenPart g sets' (set cs f.node to) ps ns (lowered f low) (length ns)
  advance_new_part =
      let p = advance_part in
      let start : f.start < length ns = advance_start in
      let was_low : f.low ≤ f.start = p.low_le in record {
        start_lt = start;
        end_le = omega arith;
        node = p.node;
        low_le = omega arith;
        reach = p.reach;
        low_reach = low_reach;
        held = λ k lo hi. elim (cases_eq k f.start) [
          | inl at ↦ subst (λ y. Within sets' y f.node) (sym (ap (λ i. get_or ns i 0) at ∙ p.node))
              (within_itself sets' f.node)
          | inr ne ↦ within_grown c (advance_apart k hi ne) (p.held k lo hi)
        ];
        spent = λ k lo hi. advance_other (get_or ns k 0) (advance_apart k hi (λ e. omega arith)) ∙ p.spent k lo hi;
        seen = λ e k h lo hi from at. elim (cases_eq k f.start) [
          | inl is ↦
              let node : get_or ns k 0 ≡ f.node = ap (λ i. get_or ns i 0) is ∙ p.node in
              let here : to ≤ e = (let same : get_or (set cs f.node to) (get_or ns k 0) 0 ≡ to
              = ap (λ x. get_or (set cs f.node to) x 0) node ∙ advance_same in omega arith) in
              elim (cases_lt e (get_or cs f.node 0 - 1)) [
                | inl before ↦ absurd (next.none e here before (from ∙ node))
                | inr after ↦ elim (cases_eq e (get_or cs f.node 0 - 1)) [
                  | inl this ↦ subst (λ i. IsSeen g sets' ps (lowered f low) (length ns) i) (sym this) now
                  | inr past ↦
                      seen_grown g ps f (lowered f low) (length ns) (length ns) e f.node c advance_not_done low_le
                      (omega arith)
                      (p.seen e k h lo hi from (let same : get_or cs (get_or ns k 0) 0 ≡ get_or cs f.node 0
                      = ap (λ x. get_or cs x 0) node in omega arith))
                ]
              ]
          | inr ne ↦
              let same : get_or (set cs f.node to) (get_or ns k 0) 0 ≡ get_or cs (get_or ns k 0) 0
              = advance_other (get_or ns k 0) (advance_apart k hi ne) in
              seen_grown g ps f (lowered f low) (length ns) (length ns) e f.node c advance_not_done low_le (omega arith)
              (p.seen e k h lo hi from (omega arith))
        ];
      }

  advance_marked : IsMarked g sets' (set cs f.node to) ps ns
  advance_marked =
      let m = w.marked in record {
        cursors_len = length-set cs f.node to ∙ m.cursors_len;
        places_len = m.places_len;
        rows_len = (let a : g.nodes ≤ length sets = m.rows_len in let b : length sets' ≡ length sets = c.long
            in omega arith);
        cursor = λ x pos. elim (cases_eq x f.node) [
          | inl same ↦
              let is : get_or (set cs f.node to) x 0 ≡ to = ap (λ y. get_or (set cs f.node to) y 0) same ∙ advance_same
              in
              let le : get_or cs f.node 0 ≤ length g.edges = (m.cursor f.node some).0 in
              let below : to ≤ get_or cs f.node 0 - 1 = next.end_le in
              (omega arith, ap (λ i. source g (i - 1)) is ∙ next.last (omega arith) ∙ sym same)
          | inr ne ↦
              let is : get_or (set cs f.node to) x 0 ≡ get_or cs x 0 = advance_other x ne in
              let was = m.cursor x (omega arith) in
              (subst (λ i. i ≤ length g.edges) (sym is) was.0, ap (λ i. source g (i - 1)) is ∙ was.1)
        ];
        pending = m.pending;
        opened = m.opened;
        fresh = λ e h n. (let same : get_or (set cs f.node to) (source g e) 0 ≡ get_or cs (source g e) 0
            = advance_other (source g e) (λ is. let z : New ≡ Open f.start = sym n ∙ ap (place ps) is ∙ advance_open
            in cc) in
            let was : e < get_or cs (source g e) 0 = m.fresh e h n in omega arith);
        done = λ e h d. let was = m.done e h d
            in (was.0, within_grown c (λ same. advance_not_done (sym (ap (place ps) same) ∙ was.0)) was.1);
      }

  pub advance_walk : IsWalk g sets' (set cs f.node to) ps ns (fs ++ lowered f low ∷ [])
  advance_walk = record {
    marked = advance_marked;
    path = path_push fs (lowered f low) (keep_path advance_alike (path_below fs f w.path)) advance_new_part
        (advance_links);
  }
    where
      advance_links : LinksTo g (set cs f.node to) fs f.node
      advance_links t e =
          let below = path_below fs f w.path in
          let part = below.parts t (omega arith) in
          let ends : begin fs f.start (t + 1) ≡ f.start = begin-past fs f.start (t + 1) (omega arith) in
          let lt : (frame fs t).start < begin fs f.start (t + 1) = part.start_lt in
          let ne : (frame fs t).node ≢ f.node = λ same. advance_apart (frame fs t).start (let l : f.start < length ns
          = advance_start in omega arith) (λ e. omega arith) (part.node ∙ same) in
          subst (λ i. (0 < i) × (target g (i - 1) ≡ f.node)) (sym (advance_other (frame fs t).node ne))
          (path_link fs f w.path t e)

-- ---- the part of the last frame joins the part of the one before

module _ {g : Digraph} {sets sets' : List NumberSet} {cs : List ℕ} {ps : List Place} {ns : List ℕ} (fs : List Frame)
    (q p : Frame) (w : IsWalk g sets cs ps ns ((fs ++ q ∷ []) ++ p ∷ []))
    (c : GrowsAt sets sets' q.node) (joined : (n : ℕ) → Member (row sets p.node) n → Member (row sets' q.node) n)
    (spent : get_or cs p.node 0 ≡ 0) (turns : p.low < p.start)
    (low : ℕ) (low_is : (low ≤ q.low) × (low ≤ p.low) × ((low ≡ q.low) ⊎ (low ≡ p.low))) where
  merge_last : IsOpenPart g sets cs ps ns p (length ns)
  merge_last = path_last (fs ++ q ∷ []) p w.path

  merge_before : IsOpenPart g sets cs ps ns q p.start
  merge_before = path_last fs q (path_below (fs ++ q ∷ []) p w.path)

  merge_p : p.start < length ns
  merge_p = merge_last.start_lt

  merge_q : q.start < p.start
  merge_q = merge_before.start_lt

  merge_open : place ps q.node ≡ Open q.start
  merge_open = sym (ap (place ps) merge_before.node)
      ∙ (w.marked.pending q.start (let a : q.start < p.start = merge_q in let b : p.start < length ns = merge_p
      in omega arith)).1

  merge_not_done : place ps q.node ≢ Done
  merge_not_done d = let e : Open q.start ≡ Done = sym merge_open ∙ d in cc

  merge_apart : (k : ℕ) → k < length ns → k ≢ q.start → get_or ns k 0 ≢ q.node
  merge_apart k lt ne same
      = ne (pending_one w.marked k q.start lt (let a : q.start < p.start = merge_q in let b : p.start < length ns
      = merge_p in omega arith) (same ∙ sym merge_before.node))

  merge_alike : IsAlike sets sets' cs cs ps ps ns ns q.start
  merge_alike =
      let a : q.start < p.start = merge_q in
      let b : p.start < length ns = merge_p in record {
        long = omega arith;
        nodes = λ k lt. refl;
        cursors = λ k lt. refl;
        opened = λ x j o lt. o;
        done = λ x d. d;
        rows = λ k lt. c.rest (get_or ns k 0) (merge_apart k (omega arith) (λ e. omega arith));
        rows_done = λ x d. c.rest x (λ same. merge_not_done (sym (ap (place ps) same) ∙ d));
      }

  merge_step : Reaches g q.node p.node
  merge_step =
      let long = length_push fs q in
      let link = path_link (fs ++ q ∷ []) p w.path (length fs) (sym long) in
      next_edge q p.node w.marked (subst (λ h. IsNext g cs h p.node) (frame-push_last fs q (length fs) refl) link)

  merge_part : IsOpenPart g sets' cs ps ns (lowered q low) (length ns)
  merge_part =
      let before = merge_before in
      let last = merge_last in
      let a : q.start < p.start = merge_q in
      let b : p.start < length ns = merge_p in
      let q_low : q.low ≤ q.start = before.low_le in
      let up : Reaches g p.node q.node = reaches_on last.low_reach (before.reach p.low turns) in
      let le_q : low ≤ q.low = low_is.0 in
      let le_p : low ≤ p.low = low_is.1 in record {
        start_lt = omega arith;
        end_le = omega arith;
        node = before.node;
        low_le = omega arith;
        reach = λ k lt. elim (cases_lt k p.start) [
          | inl h ↦ before.reach k h
          | inr h ↦ reaches_on (last.reach k lt) up
        ];
        low_reach = elim low_is.2 [
          | inl e ↦ subst (λ i. Reaches g q.node (get_or ns i 0)) (sym e) before.low_reach
          | inr e ↦ subst (λ i. Reaches g q.node (get_or ns i 0)) (sym e) (reaches_on merge_step last.low_reach)
        ];
        held = λ k lo hi. elim (cases_lt k p.start) [
          | inl h ↦ elim (cases_eq k q.start) [
            | inl at ↦ subst (λ y. Within sets' y q.node) (sym (ap (λ i. get_or ns i 0) at ∙ before.node))
                (within_itself sets' q.node)
            | inr ne ↦ within_grown c (merge_apart k hi ne) (before.held k lo h)
          ]
          | inr h ↦
              record {
                within
                    = λ n m. joined n
                    ((last.held k h hi).within n
                    (subst (λ s. Member s n) (c.rest (get_or ns k 0) (merge_apart k hi (λ e. omega arith))) m));
              }
        ];
        spent = λ k lo hi. elim (cases_lt k p.start) [
          | inl h ↦ before.spent k lo h
          | inr h ↦ elim (cases_eq k p.start) [
            | inl at ↦ ap (λ i. get_or cs (get_or ns i 0) 0) at ∙ ap (λ x. get_or cs x 0) last.node ∙ spent
            | inr ne ↦ last.spent k (omega arith) hi
          ]
        ];
        seen = λ e k h lo hi from at. elim (cases_lt k p.start) [
          | inl below ↦ seen_grown g ps q (lowered q low) p.start (length ns) e q.node c merge_not_done le_q
              (omega arith) (before.seen e k h lo below from at)
          | inr above ↦ seen_grown g ps p (lowered q low) (length ns) (length ns) e q.node c merge_not_done le_p
              (omega arith) (last.seen e k h above hi from at)
        ];
      }

  pub merge_walk : IsWalk g sets' cs ps ns (fs ++ lowered q low ∷ [])
  merge_walk = record {
    marked = (let m = w.marked in record {
      cursors_len = m.cursors_len;
      places_len = m.places_len;
      rows_len = (let a : g.nodes ≤ length sets = m.rows_len in let b : length sets' ≡ length sets = c.long
          in omega arith);
      cursor = m.cursor;
      pending = m.pending;
      opened = m.opened;
      fresh = m.fresh;
      done = λ e h d. let was = m.done e h d
          in (was.0, within_grown c (λ same. merge_not_done (sym (ap (place ps) same) ∙ was.0)) was.1);
    });
    path = (let below = path_below (fs ++ q ∷ []) p w.path
        in path_push fs (lowered q low) (keep_path merge_alike (path_below fs q below)) merge_part
        (path_link fs q below));
  }

-- ---- the part of the last frame is closed

-- a place after the positions from `start` on are closed
abbrev pub closed : ℕ → Place → Place
closed start New = New
closed start (Open k) = if nat_lt k start then Open k else Done
closed start Done = Done

closed_below : (start k : ℕ) → k < start → closed start (Open k) ≡ Open k
closed_below start k lt = grind arith

closed_above : (start k : ℕ) → start ≤ k → closed start (Open k) ≡ Done
closed_above start k le = grind arith

-- the place before
closed_cases : (start : ℕ) (v : Place) (C : Place → Type 0)
    → (v ≡ New → C New) → ((k : ℕ) → k < start → v ≡ Open k → C (Open k)) → ((k : ℕ) → start ≤ k → v ≡ Open k → C Done)
    → (v ≡ Done → C Done) → C (closed start v)
closed_cases start New C a b c d = a refl
closed_cases start (Open k) C a b c d = elim (cases_lt k start) [
  | inl lt ↦ subst C (sym (closed_below start k lt)) (b k lt refl)
  | inr ge ↦ subst C (sym (closed_above start k ge)) (c k ge refl)
]
closed_cases start Done C a b c d = d refl

-- The rows of the closed nodes became row p; the others are as they were.
pub record IsCompleted (sets sets' : List NumberSet) (ps ps' : List Place) (start p : ℕ) : Type 0 where
  pub places_len : length ps' ≡ length ps
  pub places : (x : ℕ) → place ps' x ≡ closed start (place ps x)
  pub long : length sets' ≡ length sets
  pub rest : (x : ℕ) → ((k : ℕ) → place ps x ≡ Open k → k < start) → row sets' x ≡ row sets x
  pub given : (x k n : ℕ) → place ps x ≡ Open k → start ≤ k → Member (row sets p) n → Member (row sets' x) n
  pub only : (x k n : ℕ) → place ps x ≡ Open k → start ≤ k → Member (row sets' x) n → Member (row sets p) n

module _ {g : Digraph} {sets sets' : List NumberSet} {cs : List ℕ} {ps ps' : List Place} {ns : List ℕ} (fs : List Frame)
    (f : Frame) (w : IsWalk g sets cs ps ns (fs ++ f ∷ []))
    (spent : get_or cs f.node 0 ≡ 0) (alone : f.low ≡ f.start) (c : IsCompleted sets sets' ps ps' f.start f.node) where
  close_part : IsOpenPart g sets cs ps ns f (length ns)
  close_part = path_last fs f w.path

  close_start : f.start < length ns
  close_start = close_part.start_lt

  close_len : length (take f.start ns) ≡ f.start
  close_len = (let lt : f.start < length ns = close_start in length-take-le f.start ns (omega arith))

  close_node : (k : ℕ) → k < f.start → get_or (take f.start ns) k 0 ≡ get_or ns k 0
  close_node k lt = get_or-take f.start ns k 0 lt

  close_open : (x k : ℕ) → place ps x ≡ Open k → k < f.start → place ps' x ≡ Open k
  close_open x k o lt = c.places x ∙ ap (closed f.start) o ∙ closed_below f.start k lt

  close_done : (x : ℕ) → place ps x ≡ Done → place ps' x ≡ Done
  close_done x d = c.places x ∙ ap (closed f.start) d

  close_row_open : (x k : ℕ) → place ps x ≡ Open k → k < f.start → row sets' x ≡ row sets x
  close_row_open x k o lt = c.rest x (λ j is. let same : Open j ≡ Open k = sym is ∙ o in let e : j ≡ k = cc
      in omega arith)

  close_row_done : (x : ℕ) → place ps x ≡ Done → row sets' x ≡ row sets x
  close_row_done x d = c.rest x (λ j is. let same : Open j ≡ Done = sym is ∙ d in absurd cc)

  close_alike : IsAlike sets sets' cs cs ps ps' ns (take f.start ns) f.start
  close_alike =
      let lt : f.start < length ns = close_start in record {
        long = omega (arith, close_len);
        nodes = close_node;
        cursors = λ k lt. refl;
        opened = close_open;
        done = close_done;
        rows = λ k h. close_row_open (get_or ns k 0) k (w.marked.pending k (omega arith)).1 h;
        rows_done = close_row_done;
      }

  -- the edges of a node that was closed lead to closed nodes
  close_edge : (e k : ℕ) → e < length g.edges → f.start ≤ k → place ps (source g e) ≡ Open k
      → (place ps' (target g e) ≡ Done) × Within sets' (target g e) (source g e)
  close_edge e k h le o =
      let p = close_part in
      let at = w.marked.opened (source g e) k o in
      let lt : k < length ns = at.0 in
      let over : get_or cs (get_or ns k 0) 0 ≡ 0 = elim (cases_eq k f.start) [
        | inl is ↦ ap (λ i. get_or cs (get_or ns i 0) 0) is ∙ ap (λ x. get_or cs x 0) p.node ∙ spent
        | inr ne ↦ p.spent k (omega arith) lt
      ] in
      elim (p.seen e k h le lt (sym at.1) (omega arith)) [
        | inl d ↦ (
          close_done (target g e) d.0,
          record {
            within = λ n m.
                c.given (source g e) k n o le
                ((p.held k le lt).within n
                (subst (λ x. Member (row sets x) n) (sym at.1)
                (d.1.within n (subst (λ s. Member s n) (close_row_done (target g e) d.0) m))));
          },
        )
        | inr j ↦
            let above : f.start ≤ j.0 = (let low : f.low ≤ j.0 = j.2 in omega arith) in (
              c.places (target g e) ∙ ap (closed f.start) j.1 ∙ closed_above f.start j.0 above,
              record { within = λ n m. c.given (source g e) k n o le (c.only (target g e) j.0 n j.1 above m) },
            )
      ]

  close_marked : IsMarked g sets' cs ps' (take f.start ns)
  close_marked =
      let m = w.marked in
      let lt : f.start < length ns = close_start in record {
        cursors_len = m.cursors_len;
        places_len = c.places_len ∙ m.places_len;
        rows_len = (let a : g.nodes ≤ length sets = m.rows_len in let b : length sets' ≡ length sets = c.long
            in omega arith);
        cursor = m.cursor;
        pending = λ k h.
            let below : k < f.start = omega (arith, close_len) in
            let was = m.pending k (omega arith) in (
              subst (λ x. x < g.nodes) (sym (close_node k below)) was.0,
              ap (place ps') (close_node k below)
                  ∙ close_open (get_or ns k 0) k was.1 below,
            );
        opened = λ x k o. closed_cases f.start (place ps x) (λ v. v ≡ Open k → (k < length (take f.start ns))
            × (get_or (take f.start ns) k 0 ≡ x))
            (λ e z. absurd cc)
            (λ j below is z.
            let same : j ≡ k = cc in
            let at : k < f.start = omega arith in
            (omega (arith, close_len), close_node k at ∙ (m.opened x k (is ∙ z)).1))
            (λ j above is z. absurd cc)
            (λ is z. absurd cc)
            (sym (c.places x) ∙ o);
        fresh = λ e h n. closed_cases f.start (place ps (source g e)) (λ v. v ≡ New → e < get_or cs (source g e) 0)
            (λ is z. m.fresh e h is)
            (λ j below is z. absurd cc)
            (λ j above is z. absurd cc)
            (λ is z. absurd cc)
            (sym (c.places (source g e)) ∙ n);
        done = λ e h d. closed_cases f.start (place ps (source g e)) (λ v. v ≡ Done → (place ps' (target g e) ≡ Done)
            × Within sets' (target g e) (source g e))
            (λ is z. absurd cc)
            (λ j below is z. absurd cc)
            (λ j above is z. close_edge e j h above is)
            (λ is z. let was = m.done e h is
            in (
              close_done (target g e) was.0,
              within_same (close_row_done (target g e) was.0)
                  (close_row_done (source g e) is) was.1,
            ))
            (sym (c.places (source g e)) ∙ d);
      }

  pub close_walk : IsWalk g sets' cs ps' (take f.start ns) fs
  close_walk = record {
    marked = close_marked;
    path = subst (λ n. IsPath g sets' cs ps' (take f.start ns) fs n) (sym close_len)
        (keep_path close_alike (path_below fs f w.path));
  }
