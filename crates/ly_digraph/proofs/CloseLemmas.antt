-- A component that is closed.
use Rattle.std.proofs.Common.{◌≡◌, ◌≢◌, ◌∙◌, ◌<◌, ◌≤◌, ◌+◌, ◌++◌, ◌∷◌, [], ℕ, List, length, get_or, set, take, sym, ap}
use Rattle.std.proofs.Common.{ap₂, subst, refl, arith, inl, inr, ◌⊎◌, sum_by}
use Rattle.std.specs.FinSet as sets
use Rattle.std.proofs.lemmas.Bool.{cases_lt, cases_eq}
use Rattle.std.proofs.Math.ListN.{length-set}
use Rattle.std.proofs.lemmas.List.{get_or_default}
use Rattle.ly_sets.specs.NumberSet.{NumberSet, Member}
use Rattle.ly_sets.specs.SetMatrix.{Matrix, row}
use Rattle.ly_digraph.specs.Digraph.{Digraph, Reaches}
use Rattle.ly_digraph.specs.Digraph.Reaches.{here}
use Rattle.ly_digraph.specs.Least.{IsBetween}
use Rattle.ly_digraph.specs.Walk.{place, IsOpenPart, IsWalk}
use Rattle.ly_digraph.specs.Search.{IsAt, IsAtFrame, IsListed, IsClosed, closed_place, closed_row, Continues}
use Rattle.ly_digraph.specs.Search.{waiting_from, unseen_one, undone_one}
use Rattle.ly_digraph.specs.declared.walk.Place.{Place}
use Rattle.ly_digraph.specs.declared.walk.Place.TheVariants.{New, Open, Done}
use Rattle.ly_digraph.specs.declared.walk.Frame.{Frame}
use Rattle.ly_digraph.specs.declared.walk.Walk.{Walk}
use Rattle.ly_digraph.proofs.WalkLemmas.{IsCompleted, closed, path_last, close_walk, place-set_same, place-set_other}
use Rattle.ly_digraph.proofs.UnionLemmas.{united, row-united_same, row-united_other, Member-union_left}
use Rattle.ly_digraph.proofs.UnionLemmas.{Member-union_right, Member-union_cases}
use Rattle.ly_digraph.proofs.CountLemmas.{sum_places-set}

-- ---- one position more

closes : (start end k : ℕ) → start ≤ k → k < end → closed_place start end (Open k) ≡ Done
closes start end k lo hi = grind arith

stays : (start end k : ℕ) → (k < start) ⊎ (end ≤ k) → closed_place start end (Open k) ≡ Open k
stays start end k out = grind arith

gets : (start end k : ℕ) (s root : NumberSet) → start < k → k < end
    → closed_row start end (Open k) s root ≡ sets.union s root
gets start end k s root lo hi = grind arith

keeps : (start end k : ℕ) (s root : NumberSet) → (k ≤ start) ⊎ (end ≤ k) → closed_row start end (Open k) s root ≡ s
keeps start end k s root out = grind arith

-- a place that isn't the one at the end
same_place : (start end : ℕ) (v : Place) → v ≢ Open end → closed_place start (end + 1) v ≡ closed_place start end v
same_place start end New ne = refl
same_place start end (Open k) ne = elim (cases_eq k end) [
  | inl same ↦ absurd (ne (ap Open same))
  | inr other ↦ grind (arith, other)
]
same_place start end Done ne = refl

same_row : (start end : ℕ) (v : Place) (s root : NumberSet) → v ≢ Open end
    → closed_row start (end + 1) v s root ≡ closed_row start end v s root
same_row start end New s root ne = refl
same_row start end (Open k) s root ne = elim (cases_eq k end) [
  | inl same ↦ absurd (ne (ap Open same))
  | inr other ↦ grind (arith, other)
]
same_row start end Done s root ne = refl

none_place : (start : ℕ) (v : Place) → closed_place start start v ≡ v
none_place start New = refl
none_place start (Open k) = stays start start k (let h = cases_lt k start in h)
none_place start Done = refl

none_row : (start end : ℕ) (v : Place) (s root : NumberSet) → end ≤ start + 1 → closed_row start end v s root ≡ s
none_row start end New s root le = refl
none_row start end (Open k) s root le
    = keeps start end k s root (elim (cases_lt start k) [ inl lt ↦ inr (omega arith) | inr ge ↦ inl ge ])
none_row start end Done s root le = refl

module _ {ps : List Place} {ns : List ℕ} (listed : IsListed ps ns) where
  not_at : (x k : ℕ) → x ≢ get_or ns k 0 → place ps x ≢ Open k
  not_at x k ne o = ne (sym (listed.opened x k o).1)

  pub close_first : (m : Matrix) (start root : ℕ) → start < length ns → get_or ns start 0 ≡ root
      → IsClosed m m ps (set ps root Done) start (start + 1) root
  close_first m start root lt is =
      let at : place ps root ≡ Open start = ap (place ps) (sym is) ∙ (listed.pending start lt).1 in
      let inside : root < length ps = subst (λ x. x < length ps) is (listed.pending start lt).0 in record {
        places_len = length-set ps root Done;
        places = λ x. elim (cases_eq x root) [
          | inl same ↦ ap (place (set ps root Done)) same ∙ place-set_same ps root Done inside
              ∙ sym (ap (closed_place start (start + 1)) (ap (place ps) same ∙ at)
              ∙ closes start (start + 1) start (omega arith) (omega arith))
          | inr ne ↦ place-set_other ps root Done x ne
              ∙ sym (same_place start start (place ps x) (not_at x start (λ e. ne (e ∙ is)))
              ∙ none_place start (place ps x))
        ];
        long = refl;
        rows = λ x. sym (none_row start (start + 1) (place ps x) (row m.sets x) (row m.sets root) (omega arith));
        width = refl;
        paid = (let e : sum_by undone_one (set ps root Done) + undone_one (place ps root) ≡ sum_by undone_one ps + 0
            = sum_places-set undone_one ps root Done inside in omega arith);
        unseen = (let e : sum_by unseen_one (set ps root Done) + unseen_one (place ps root) ≡ sum_by unseen_one ps + 0
            = sum_places-set unseen_one ps root Done inside in let z : unseen_one (place ps root) ≡ 0 = ap unseen_one at
            in omega arith);
      }

  pub close_more : (m m' : Matrix) (ps' : List Place) (start position root member : ℕ) → start < position
      → position < length ns → get_or ns start 0 ≡ root → get_or ns position 0 ≡ member → length ps ≤ length m.sets
      → IsClosed m m' ps ps' start position root → IsClosed m (united m' member root) ps (set ps' member Done) start
      (position + 1) root
  close_more m m' ps' start position root member lo hi is_root is_member rows c =
      let at : place ps member ≡ Open position = ap (place ps) (sym is_member) ∙ (listed.pending position hi).1 in
      let root_at : place ps root ≡ Open start = ap (place ps) (sym is_root) ∙ (listed.pending start (omega arith)).1 in
      let inside : member < length ps = subst (λ x. x < length ps) is_member (listed.pending position hi).0 in
      let inside' : member < length ps' = (let e : length ps' ≡ length ps = c.places_len in omega arith) in
      let row_inside : member < length m'.sets = (let e : length m'.sets ≡ length m.sets = c.long in omega arith) in
      let was : place ps' member ≡ Open position = c.places member ∙ ap (closed_place start position) at
      ∙ stays start position position (inr (omega arith)) in
      let member_row : row m'.sets member ≡ row m.sets member = c.rows member
      ∙ ap (λ v. closed_row start position v (row m.sets member) (row m.sets root)) at
      ∙ keeps start position position _ _ (inr (omega arith)) in
      let root_row : row m'.sets root ≡ row m.sets root = c.rows root
      ∙ ap (λ v. closed_row start position v (row m.sets root) (row m.sets root)) root_at
      ∙ keeps start position start _ _ (inl (omega arith)) in record {
        places_len = length-set ps' member Done ∙ c.places_len;
        places = λ x. elim (cases_eq x member) [
          | inl same ↦ ap (place (set ps' member Done)) same ∙ place-set_same ps' member Done inside'
              ∙ sym (ap (closed_place start (position + 1)) (ap (place ps) same ∙ at)
              ∙ closes start (position + 1) position (omega arith) (omega arith))
          | inr ne ↦ place-set_other ps' member Done x ne ∙ c.places x
              ∙ sym (same_place start position (place ps x) (not_at x position (λ e. ne (e ∙ is_member))))
        ];
        long = length-set m'.sets member _ ∙ c.long;
        rows = λ x. elim (cases_eq x member) [
          | inl same ↦ ap (row (united m' member root).sets) same ∙ row-united_same m' member root row_inside
              ∙ ap₂ sets.union member_row root_row
              ∙ sym (ap₂ (λ v s. closed_row start (position + 1) v s (row m.sets root)) (ap (place ps) same ∙ at)
              (ap (row m.sets) same) ∙ gets start (position + 1) position _ _ lo (omega arith))
          | inr ne ↦ row-united_other m' member root row_inside x ne ∙ c.rows x
              ∙ sym (same_row start position (place ps x) _ _ (not_at x position (λ e. ne (e ∙ is_member))))
        ];
        width = c.width;
        paid = (let e : sum_by undone_one (set ps' member Done) + undone_one (place ps' member)
            ≡ sum_by undone_one ps' + 0 = sum_places-set undone_one ps' member Done inside' in
            let one : undone_one (place ps' member) ≡ 1 = ap undone_one was in let before = c.paid in omega arith);
        unseen = (let e : sum_by unseen_one (set ps' member Done) + unseen_one (place ps' member)
            ≡ sum_by unseen_one ps' + 0 = sum_places-set unseen_one ps' member Done inside' in
            let z : unseen_one (place ps' member) ≡ 0 = ap unseen_one was in let before = c.unseen in omega arith);
      }

-- the pending node that is read
pub pending_read : (ns ns' : List ℕ) (k x : ℕ) → ns' ≡ ns → k < length ns → x ≡ get_or ns' k x → get_or ns k 0 ≡ x
pending_read ns ns' k x same lt read = get_or_default ns k 0 x lt ∙ sym (ap (λ v. get_or v k x) same) ∙ sym read

-- ---- a whole part

module _ (g : Digraph) (m m' : Matrix) (w w' : Walk) (f : Frame) (at : IsAtFrame g m.sets w f)
    (spent : get_or w.cursors.items f.node 0 ≡ 0) (alone : f.low ≡ f.start)
    (c : IsClosed m m' w.places.items w'.places.items f.start (length w.pending.items) f.node)
    (pending : w'.pending.items ≡ take f.start w.pending.items) (cursors : w'.cursors ≡ w.cursors)
    (path : w'.path ≡ w.path) where
  part : IsOpenPart g m.sets w.cursors.items w.places.items w.pending.items f (length w.pending.items)
  part = path_last w.path.items f at.path

  part_start : f.start < length w.pending.items
  part_start = part.start_lt

  root_row : row m'.sets f.node ≡ row m.sets f.node
  root_row =
      let open_at : place w.places.items f.node ≡ Open f.start = ap (place w.places.items) (sym part.node)
      ∙ (at.marked.pending f.start part_start).1 in
      c.rows f.node ∙ ap (λ v. closed_row f.start (length w.pending.items) v (row m.sets f.node) (row m.sets f.node))
      open_at ∙ keeps f.start (length w.pending.items) f.start _ _ (inl (omega arith))

  member_row : (x k : ℕ) → place w.places.items x ≡ Open k → f.start < k
      → row m'.sets x ≡ sets.union (row m.sets x) (row m.sets f.node)
  member_row x k o lo
      = c.rows x ∙ ap (λ v. closed_row f.start (length w.pending.items) v (row m.sets x) (row m.sets f.node)) o
      ∙ gets f.start (length w.pending.items) k _ _ lo (at.marked.opened x k o).0

  root_is : (x k : ℕ) → place w.places.items x ≡ Open k → k ≡ f.start → x ≡ f.node
  root_is x k o same = sym (at.marked.opened x k o).1 ∙ ap (λ i. get_or w.pending.items i 0) same ∙ part.node

  other_row : (x : ℕ) → ((k : ℕ) → place w.places.items x ≡ Open k → k < f.start) → row m'.sets x ≡ row m.sets x
  other_row x below = by (place w.places.items x) refl
    where
      by : (v : Place) → place w.places.items x ≡ v → row m'.sets x ≡ row m.sets x
      by New e = c.rows x ∙ ap (λ v. closed_row f.start (length w.pending.items) v (row m.sets x) (row m.sets f.node)) e
      by (Open k) e
          = c.rows x ∙ ap (λ v. closed_row f.start (length w.pending.items) v (row m.sets x) (row m.sets f.node)) e
          ∙ keeps f.start (length w.pending.items) k _ _ (inl (let h = below k e in omega arith))
      by Done e = c.rows x ∙ ap (λ v. closed_row f.start (length w.pending.items) v (row m.sets x) (row m.sets f.node))
          e

  place_is : (x : ℕ) → place w'.places.items x ≡ closed f.start (place w.places.items x)
  place_is x = c.places x ∙ by (place w.places.items x) refl
    where
      by : (v : Place) → place w.places.items x ≡ v → closed_place f.start (length w.pending.items) v ≡ closed f.start v
      by New e = refl
      by (Open k) e = (let lt : k < length w.pending.items = (at.marked.opened x k e).0 in grind (arith, lt))
      by Done e = refl

  completed : IsCompleted m.sets m'.sets w.places.items w'.places.items f.start f.node
  completed = record {
    places_len = c.places_len;
    places = place_is;
    long = c.long;
    rest = other_row;
    given = λ x k n o le h. elim (cases_eq k f.start) [
      | inl same ↦ subst (λ y. Member (row m'.sets y) n) (sym (root_is x k o same))
          (subst (λ s. Member s n) (sym root_row) h)
      | inr ne ↦ subst (λ s. Member s n) (sym (member_row x k o (omega arith))) (Member-union_right _ _ n h)
    ];
    only = λ x k n o le h. elim (cases_eq k f.start) [
      | inl same ↦ subst (λ s. Member s n) root_row (subst (λ y. Member (row m'.sets y) n) (root_is x k o same) h)
      | inr ne ↦ elim (Member-union_cases _ _ n (subst (λ s. Member s n) (member_row x k o (omega arith)) h)) [
        | inl own ↦ (let held = part.held k le (at.marked.opened x k o).0
            in held.within n (subst (λ y. Member (row m.sets y) n) (sym (at.marked.opened x k o).1) own))
        | inr root ↦ root
      ]
    ];
  }

  pub closed_at : IsAt g m'.sets w'
  closed_at =
      let walk = close_walk w.path.items f at spent alone completed in
      subst (λ v. IsWalk g m'.sets w'.cursors.items w'.places.items w'.pending.items v.items) (sym path)
      (subst (λ v. IsWalk g m'.sets v.items w'.places.items w'.pending.items w.path.items) (sym cursors)
      (subst (λ ns. IsWalk g m'.sets w.cursors.items w'.places.items ns w.path.items) (sym pending) walk))

  closed_between : IsBetween g m.sets m'.sets
  closed_between = record {
    kept = record { holds = λ i n h. keeps_row i n h (place w.places.items i) refl };
    reached = λ i n h. comes i n h (place w.places.items i) refl;
  }
    where
      unmoved : (i : ℕ) (v : Place) → place w.places.items i ≡ v → ((k : ℕ) → v ≡ Open k → k < f.start)
          → row m'.sets i ≡ row m.sets i
      unmoved i v e below = other_row i (λ k o. below k (sym e ∙ o))

      keeps_row : (i n : ℕ) → Member (row m.sets i) n → (v : Place) → place w.places.items i ≡ v
          → Member (row m'.sets i) n
      keeps_row i n h New e = subst (λ s. Member s n) (sym (unmoved i New e (λ k o. absurd cc))) h
      keeps_row i n h (Open k) e = elim (cases_lt f.start k) [
        | inl lt ↦ subst (λ s. Member s n) (sym (member_row i k e lt)) (Member-union_left _ _ n h)
        | inr le ↦ elim (cases_eq k f.start) [
          | inl same ↦ subst (λ y. Member (row m'.sets y) n) (sym (root_is i k e same))
              (subst (λ s. Member s n) (sym root_row) (subst (λ y. Member (row m.sets y) n) (root_is i k e same) h))
          | inr ne ↦ subst (λ s. Member s n) (sym (unmoved i (Open k) e (λ j o. let same : k ≡ j = cc in omega arith)))
              h
        ]
      ]
      keeps_row i n h Done e = subst (λ s. Member s n) (sym (unmoved i Done e (λ k o. absurd cc))) h

      comes : (i n : ℕ) → Member (row m'.sets i) n → (v : Place) → place w.places.items i ≡ v → (j : ℕ) × Reaches g i j
          × Member (row m.sets j) n
      comes i n h New e = (i, here i, subst (λ s. Member s n) (unmoved i New e (λ k o. absurd cc)) h)
      comes i n h (Open k) e = elim (cases_lt f.start k) [
        | inl lt ↦ elim (Member-union_cases _ _ n (subst (λ s. Member s n) (member_row i k e lt) h)) [
          | inl own ↦ (i, here i, own)
          | inr root ↦ (
            f.node,
            subst (λ y. Reaches g y f.node) (at.marked.opened i k e).1
                (part.reach k (at.marked.opened i k e).0),
            root,
          )
        ]
        | inr le ↦ elim (cases_eq k f.start) [
          | inl same ↦ (
            i,
            here i,
            subst (λ y. Member (row m.sets y) n) (sym (root_is i k e same))
                (subst (λ s. Member s n) root_row (subst (λ y. Member (row m'.sets y) n) (root_is i k e same) h)),
          )
          | inr ne ↦ (
            i,
            here i,
            subst (λ s. Member s n) (unmoved i (Open k) e (λ j o. let same : k ≡ j = cc in omega arith))
                h,
          )
        ]
      ]
      comes i n h Done e = (i, here i, subst (λ s. Member s n) (unmoved i Done e (λ k o. absurd cc)) h)

  pub closed_on : Continues g m w m' w'
  closed_on = record {
    at = closed_at;
    between = closed_between;
    long = c.long;
    width = c.width;
    paid = (let waiting : waiting_from 0 g.edges w'.cursors.items ≡ waiting_from 0 g.edges w.cursors.items
        = ap (λ v. waiting_from 0 g.edges v.items) cursors in let paid = c.paid in omega arith);
    seen = λ x old e. was_old (place w.places.items x) (sym (c.places x) ∙ e) old;
  }
    where
      was_old : (v : Place) → closed_place f.start (length w.pending.items) v ≡ New → v ≢ New → ⊥
      was_old New e old = old refl
      was_old (Open k) e old = elim (cases_lt k f.start) [
        | inl lt ↦ (let s : Open k ≡ New = sym (stays f.start (length w.pending.items) k (inl lt)) ∙ e in cc)
        | inr ge ↦ elim (cases_lt k (length w.pending.items)) [
          | inl lt ↦ (let s : Done ≡ New = sym (closes f.start (length w.pending.items) k ge lt) ∙ e in cc)
          | inr le ↦ (let s : Open k ≡ New = sym (stays f.start (length w.pending.items) k (inr le)) ∙ e in cc)
        ]
      ]
      was_old Done e old = cc

-- ---- a walk whose last frame was taken off

pub at_popped : {g : Digraph} {ss : List NumberSet} (w : Walk) (fs : List Frame) (f : Frame)
    → w.path.items ≡ fs ++ f ∷ [] → IsAt g ss w
    → IsWalk g ss w.cursors.items w.places.items w.pending.items (fs ++ f ∷ [])
at_popped {g} {ss} w fs f e at = subst (λ path. IsWalk g ss w.cursors.items w.places.items w.pending.items path) e at

pub continues_popped : {g : Digraph} {m m' : Matrix} {w' : Walk} (w v : Walk) → v.cursors ≡ w.cursors
    → v.places ≡ w.places → Continues g m v m' w' → Continues g m w m' w'
continues_popped {g} {w' = w'} w v cursors places s = record {
  at = s.at;
  between = s.between;
  long = s.long;
  width = s.width;
  paid = (let a : waiting_from 0 g.edges v.cursors.items ≡ waiting_from 0 g.edges w.cursors.items
      = ap (λ cs. waiting_from 0 g.edges cs.items) cursors in
      let b : sum_by undone_one v.places.items ≡ sum_by undone_one w.places.items
      = ap (λ ps. sum_by undone_one ps.items) places in let paid = s.paid in omega arith);
  seen = λ x old. s.seen x (λ e. old (ap (λ ps. place ps.items x) (sym places) ∙ e));
}
