-- A graph that gets one more edge, and a walk that begins.
use Rattle.std.proofs.Common.{◌≡◌, ◌∙◌, ◌<◌, ◌≤◌, ◌+◌, ◌-◌, ◌++◌, ◌∷◌, [], ℕ, List, length, get_or, set, replicate, sym}
use Rattle.std.proofs.Common.{ap, subst, refl, arith, inl, inr, sum_by, All}
use Rattle.std.proofs.lemmas.Bool.{cases_lt, cases_eq}
use Rattle.std.proofs.lemmas.List.{length-map, map-append, length_push, get_or_push, get_or_append_left}
use Rattle.std.proofs.lemmas.List.{get_or-set_same, get_or-set_other, get_or_past}
use Rattle.std.proofs.lemmas.List.Elements.{All-get_or}
use Rattle.std.proofs.lemmas.List.Folds.{sum_by-replicate}
use Rattle.std.proofs.lemmas.Simd.{length-replicate, get_or-replicate}
use Rattle.std.proofs.Math.ListN.{length-set}
use Rattle.ly_sets.specs.NumberSet.{NumberSet}
use Rattle.ly_digraph.specs.Digraph.{Digraph, source, IsInside, IsEndBefore}
use Rattle.ly_digraph.specs.Graph.{ends_of, IsEdgeList}
use Rattle.ly_digraph.specs.Walk.{place, IsWalk}
use Rattle.ly_digraph.specs.Search.{undone_one}
use Rattle.ly_digraph.specs.declared.graph.Edge.{Edge}
use Rattle.ly_digraph.specs.declared.walk.Place.TheVariants.{New, Open, Done}

abbrev graph_of : List ℕ → List Edge → Digraph
graph_of ends edges = record { nodes = length ends; edges = ends_of edges }

abbrev no_edge : Edge
no_edge = record { from = 0; to = 0; before = 0 }

pub length-ends_of : (edges : List Edge) → length (ends_of edges) ≡ length edges
length-ends_of edges = length-map {B = ℕ × ℕ} edges (λ e. (e.from, e.to))

-- the same edges end alike
end_same : {g g' : Digraph} {x bound end : ℕ} → ((e : ℕ) → e < bound → source g' e ≡ source g e)
    → IsEndBefore g x bound end → IsEndBefore g' x bound end
end_same same h = record {
  end_le = h.end_le;
  last = λ some. same _ (let le = h.end_le in omega arith) ∙ h.last some;
  none = λ e lo hi is. h.none e lo hi (sym (same e hi) ∙ is);
}

module _ {ends : List ℕ} {edges : List Edge} (linked : IsEdgeList ends edges) (from to : ℕ)
    (from_in : from < length ends)
    (to_in : to < length ends) where
  abbrev new_edge : Edge
  new_edge = record { from = from; to = to; before = get_or ends from 0 }

  abbrev new_ends : List ℕ
  new_ends = set ends from (length edges + 1)

  edges_is : ends_of (edges ++ new_edge ∷ []) ≡ ends_of edges ++ (from, to) ∷ []
  edges_is = map-append {B = ℕ × ℕ} (λ e. (e.from, e.to)) edges (new_edge ∷ [])

  pair_old : (e : ℕ) → e < length edges → get_or (ends_of (edges ++ new_edge ∷ [])) e (0, 0)
      ≡ get_or (ends_of edges) e (0, 0)
  pair_old e lt = ap (λ xs. get_or xs e (0, 0)) edges_is ∙ get_or_append_left (ends_of edges) ((from, to) ∷ []) (0, 0) e
      (omega (arith, length-ends_of edges))

  pair_new : get_or (ends_of (edges ++ new_edge ∷ [])) (length edges) (0, 0) ≡ (from, to)
  pair_new = ap (λ xs. get_or xs (length edges) (0, 0)) edges_is ∙ get_or_push (ends_of edges) (from, to) (0, 0)
      (length edges) (length-ends_of edges)

  source_old : (e : ℕ) → e < length edges → source (graph_of new_ends (edges ++ new_edge ∷ [])) e
      ≡ source (graph_of ends edges) e
  source_old e lt = ap (λ p. p.0) (pair_old e lt)

  source_new : source (graph_of new_ends (edges ++ new_edge ∷ [])) (length edges) ≡ from
  source_new = ap (λ p. p.0) pair_new

  long : length (edges ++ new_edge ∷ []) ≡ length edges + 1
  long = length_push edges new_edge

  nodes_same : length new_ends ≡ length ends
  nodes_same = length-set ends from (length edges + 1)

  pub linked_push : IsEdgeList new_ends (edges ++ new_edge ∷ [])
  linked_push = record {
    lasts = λ x lt. elim (cases_eq x from) [
      | inl same ↦
          let at : get_or new_ends x 0 ≡ length edges + 1 = ap (λ y. get_or new_ends y 0) same
          ∙ get_or-set_same ends from (length edges + 1) 0 from_in in record {
            end_le = omega (arith, long, at);
            last = λ some. ap (source (graph_of new_ends (edges ++ new_edge ∷ []))) (let e : get_or new_ends x 0 - 1
                ≡ length edges = omega arith in e) ∙ source_new ∙ sym same;
            none = λ e lo hi. absurd (omega (arith, long, at));
          }
      | inr ne ↦
          let at : get_or new_ends x 0 ≡ get_or ends x 0 = get_or-set_other ends from x (length edges + 1) 0 ne in
          let was : IsEndBefore (graph_of new_ends (edges ++ new_edge ∷ [])) x (length edges) (get_or ends x 0)
          = end_same source_old (linked.lasts x (omega (arith, nodes_same))) in record {
            end_le = (let le = was.end_le in omega (arith, long, at));
            last = λ some. ap (λ k. source (graph_of new_ends (edges ++ new_edge ∷ [])) (k - 1)) at
                ∙ was.last (omega arith);
            none = λ e lo hi. elim (cases_lt e (length edges)) [
              | inl below ↦ was.none e (omega arith) below
              | inr above ↦
                  λ is. ne (sym is ∙ ap (source (graph_of new_ends (edges ++ new_edge ∷ []))) (let k : e ≡ length edges
                  = omega (arith, long) in k) ∙ source_new)
            ];
          }
    ];
    before = λ e lt. elim (cases_lt e (length edges)) [
      | inl below ↦
          let edge : get_or (edges ++ new_edge ∷ []) e no_edge ≡ get_or edges e no_edge
          = get_or_append_left edges (new_edge ∷ []) no_edge e below in
          subst (λ b. IsEndBefore (graph_of new_ends (edges ++ new_edge ∷ []))
          (source (graph_of new_ends (edges ++ new_edge ∷ [])) e) e b) (sym (ap (λ (k : Edge). k.before) edge))
          (subst (λ x. IsEndBefore (graph_of new_ends (edges ++ new_edge ∷ [])) x e (get_or edges e no_edge).before)
          (sym (source_old e below))
          (end_same (λ k h. source_old k (omega arith)) (linked.before e below)))
      | inr above ↦
          let at : length edges ≡ e = omega (arith, long) in
          subst (λ k. IsEndBefore (graph_of new_ends (edges ++ new_edge ∷ []))
          (source (graph_of new_ends (edges ++ new_edge ∷ [])) k) k
          (get_or (edges ++ new_edge ∷ []) k no_edge).before) at
          (subst (λ b. IsEndBefore (graph_of new_ends (edges ++ new_edge ∷ []))
          (source (graph_of new_ends (edges ++ new_edge ∷ [])) (length edges)) (length edges) b)
          (sym (ap (λ (k : Edge). k.before) (get_or_push edges new_edge no_edge (length edges) refl)))
          (subst (λ x. IsEndBefore (graph_of new_ends (edges ++ new_edge ∷ [])) x (length edges) (get_or ends from 0))
          (sym source_new)
          (end_same source_old (linked.lasts from from_in))))
    ];
    inside = λ e lt. elim (cases_lt e (length edges)) [
      | inl below ↦
          (let was = linked.inside e below in subst (λ (p : ℕ × ℕ). (p.0 < length new_ends) × (p.1 < length new_ends))
          (sym (pair_old e below)) (omega (arith, nodes_same), omega (arith, nodes_same)))
      | inr above ↦
          let at : length edges ≡ e = omega (arith, long) in
          subst (λ k. IsInside (length new_ends) (get_or (ends_of (edges ++ new_edge ∷ [])) k (0, 0))) at
          (subst (λ (p : ℕ × ℕ). IsInside (length new_ends) p) (sym pair_new) (
            omega (arith, nodes_same),
            omega (arith, nodes_same),
          ))
    ];
  }

-- ---- a walk begins

-- the ends of the nodes' edges
pub record AreEnds (g : Digraph) (cs : List ℕ) (n : ℕ) : Type 0 where
  pub long : length cs ≡ n
  pub ends : (x : ℕ) → x < n → IsEndBefore g x (length g.edges) (get_or cs x 0)

pub ends_none : (g : Digraph) → AreEnds g [] 0
ends_none g = record { long = refl; ends = λ x lt. absurd (omega arith) }

pub ends_more : (g : Digraph) (cs : List ℕ) (n end : ℕ) → AreEnds g cs n → IsEndBefore g n (length g.edges) end
    → AreEnds g (cs ++ end ∷ []) (n + 1)
ends_more g cs n end a e = record {
  long = (let l = a.long in omega (arith, length_push cs end));
  ends = λ x lt. elim (cases_lt x n) [
    | inl below ↦
        subst (λ k. IsEndBefore g x (length g.edges) k)
        (sym (get_or_append_left cs (end ∷ []) 0 x (let l = a.long in omega arith))) (a.ends x below)
    | inr above ↦
        let at : n ≡ x = omega arith in
        subst (λ y. IsEndBefore g y (length g.edges) (get_or (cs ++ end ∷ []) y 0)) at
        (subst (λ k. IsEndBefore g n (length g.edges) k) (sym (get_or_push cs end 0 n a.long)) e)
  ];
}

all_new : (n x : ℕ) → place (replicate n New) x ≡ New
all_new n x = elim (cases_lt x n) [
  | inl lt ↦ get_or-replicate n x New New lt
  | inr ge ↦ get_or_past (replicate n New) x New (omega (arith, length-replicate n New))
]

pub begins : (g : Digraph) (sets : List NumberSet) (cs : List ℕ) → AreEnds g cs g.nodes → All (IsInside g.nodes) g.edges
    → g.nodes ≤ length sets → IsWalk g sets cs (replicate g.nodes New) [] []
begins g sets cs a all rows = record {
  marked = record {
    cursors_len = a.long;
    places_len = length-replicate g.nodes New;
    rows_len = rows;
    cursor = λ x some. elim (cases_lt x g.nodes) [
      | inl lt ↦ (let e = a.ends x lt in (e.end_le, e.last some))
      | inr ge ↦ absurd (let z : get_or cs x 0 ≡ 0 = get_or_past cs x 0 (let l = a.long in omega arith) in omega arith)
    ];
    pending = λ k lt. absurd (omega arith);
    opened = λ x k o. absurd (let z : New ≡ Open k = sym (all_new g.nodes x) ∙ o in cc);
    fresh = λ e lt n. elim (cases_lt e (get_or cs (source g e) 0)) [
      | inl h ↦ h
      | inr ge ↦
          absurd ((a.ends (source g e) (All-get_or (IsInside g.nodes) g.edges e (0, 0) lt all).0).none e ge lt refl)
    ];
    done = λ e lt d. absurd (let z : New ≡ Done = sym (all_new g.nodes (source g e)) ∙ d in cc);
  };
  path = record { first = refl; parts = λ t lt. absurd (omega arith); links = λ t lt. absurd (omega arith) };
}

pub all_undone : (n : ℕ) → sum_by undone_one (replicate n New) ≡ n
all_undone n = omega (arith, sum_by-replicate undone_one n New)
