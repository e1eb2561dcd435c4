-- Transitions that are read.
use Rattle.std.proofs.Common.{◌≡◌, ◌∙◌, ◌⊎◌, ◌↔◌, inl, inr, ℕ, ◌+◌, ◌<◌, ◌≤◌, [], ◌∷◌, ◌++◌, Some, sym, ap, subst}
use Rattle.std.proofs.Common.{arith, length, slice_get, Contains}
use Rattle.std.proofs.lemmas.Bool.{cases_order}
use Rattle.std.proofs.lemmas.List.Elements.{Contains-append_cases, Contains-append_left, Contains-append_right}
use Rattle.std.proofs.lemmas.Option.{slice_get_within}
use Rattle.ly_base.proofs.MemberLemmas.{Contains-first, Contains-none, Contains-one}
use Rattle.ly_join.specs.Grammar.{nonterminal}
use Rattle.ly_digraph.specs.Digraph.{Digraph, IsEdge}
use Rattle.ly_grammar.specs.Derivations.{IsNullable}
use Rattle.ly_relate.specs.Private.Gotos.{IsNumbering, Numbering}
use Rattle.ly_relate.specs.Private.Reads.{IsNullableWithin}
use Rattle.ly_relate.specs.Private.Walks.{AreEdgesFrom}
use Rattle.ly_relate.specs.Related.{Goto, IsRead}
use Rattle.ly_relate.proofs.GotoLemmas.{numbered_are}

-- the graph with one more edge
pub with_edge : Digraph → ℕ → ℕ → Digraph
with_edge g i j = record g { edges = g.edges ++ (i, j) ∷ [] }

-- one more that is nullable
pub nullable_more : (n : Numbering) (old g new : Digraph) (m start next : ℕ) (y : Goto) → start ≤ next
    → slice_get n.gotos next ≡ Some y → IsNullable n.automaton.grammar (nonterminal y.symbol ∷ [])
    → new.edges ≡ g.edges ++ (m, next) ∷ [] → AreEdgesFrom old g m (IsNullableWithin n start next)
    → AreEdgesFrom old new m (IsNullableWithin n start (next + 1))
nullable_more n old g new m start next y le at null e before i j = (to, back) where
  to : IsEdge new i j → IsEdge old i j ⊎ ((i ≡ m) × IsNullableWithin n start (next + 1) j)
  to has = elim (Contains-append_cases g.edges ((m, next) ∷ []) (i, j) (subst (λ w. Contains w (i, j)) e has)) [
    | inl here ↦ elim ((before i j).0 here) [
      | inl was ↦ inl was
      | inr (same, (low, lt, z, there, null)) ↦ inr (same, (low, omega (arith, lt), z, there, null))
    ]
    | inr last ↦
        let same = Contains-one (m, next) (i, j) last in
        let from : m ≡ i = ap (λ p. p.0) same in
        let place : next ≡ j = ap (λ p. p.1) same in
        inr (
          sym from,
          (
            omega (arith, le, place),
            omega (arith, place),
            y,
            subst (λ k. slice_get n.gotos k ≡ Some y) place at,
            null,
          ),
        )
  ]

  back : IsEdge old i j ⊎ ((i ≡ m) × IsNullableWithin n start (next + 1) j) → IsEdge new i j
  back (inl was) = subst (λ w. Contains w (i, j)) (sym e)
      (Contains-append_left g.edges ((m, next) ∷ []) (i, j) ((before i j).1 (inl was)))
  back (inr (same, (low, lt, z, there, null))) = subst (λ w. Contains w (i, j)) (sym e) (elim (cases_order j next) [
    | inl here ↦ subst (λ k. Contains (g.edges ++ (m, next) ∷ []) (k, j)) (sym same)
        (subst (λ k. Contains (g.edges ++ (m, next) ∷ []) (m, k)) (sym here)
        (Contains-append_right g.edges ((m, next) ∷ []) (m, next) (Contains-first (m, next) [])))
    | inr (inl less) ↦ Contains-append_left g.edges ((m, next) ∷ []) (i, j)
        ((before i j).1 (inr (same, (low, less, z, there, null))))
    | inr (inr more) ↦ absurd (omega (arith, lt, more))
  ])

-- one more that isn't
pub nullable_past : (n : Numbering) (old g : Digraph) (m start next : ℕ) (y : Goto) → slice_get n.gotos next ≡ Some y
    → (IsNullable n.automaton.grammar (nonterminal y.symbol ∷ []) → ⊥)
    → AreEdgesFrom old g m (IsNullableWithin n start next) → AreEdgesFrom old g m (IsNullableWithin n start (next + 1))
nullable_past n old g m start next y at lacks before i j = (to, back) where
  to : IsEdge g i j → IsEdge old i j ⊎ ((i ≡ m) × IsNullableWithin n start (next + 1) j)
  to has = elim ((before i j).0 has) [
    | inl was ↦ inl was
    | inr (same, (low, lt, z, there, null)) ↦ inr (same, (low, omega (arith, lt), z, there, null))
  ]

  back : IsEdge old i j ⊎ ((i ≡ m) × IsNullableWithin n start (next + 1) j) → IsEdge g i j
  back (inl was) = (before i j).1 (inl was)
  back (inr (same, (low, lt, z, there, null))) = elim (cases_order j next) [
    | inl here ↦
        let one : Some z ≡ Some y = sym there ∙ (ap (slice_get n.gotos) here ∙ at) in
        let is : z ≡ y = cc in
        absurd (lacks (subst (λ w. IsNullable n.automaton.grammar (nonterminal w.symbol ∷ [])) is null))
    | inr (inl less) ↦ (before i j).1 (inr (same, (low, less, z, there, null)))
    | inr (inr more) ↦ absurd (omega (arith, lt, more))
  ]

-- the nullable ones that leave the state to which a transition leads are those that it reads
pub nullable_read : (n : Numbering) (m start end : ℕ) (x : Goto) → IsNumbering n → slice_get n.gotos m ≡ Some x
    → ((k : ℕ) (y : Goto) → slice_get n.gotos k ≡ Some y → (y.from ≡ x.target) ↔ ((start ≤ k) × (k < end)))
    → (j : ℕ) → IsNullableWithin n start end j ↔ IsRead n.automaton n.gotos m j
nullable_read n m start end x law at these j = (to, back) where
  to : IsNullableWithin n start end j → IsRead n.automaton n.gotos m j
  to (low, lt, y, there, null) =
      let from = (these j y there).1 (low, lt) in
      let goes = (numbered_are n law).are j y there in (
        x,
        y,
        at,
        there,
        (
          (numbered_are n law).are m x at ∙ ap (λ k. Some k) (sym from),
          (y.target, goes),
          null,
        ),
      )

  back : IsRead n.automaton n.gotos m j → IsNullableWithin n start end j
  back (z, y, here, there, (goes, on, null)) =
      let one : Some z ≡ Some x = sym here ∙ at in
      let is : z ≡ x = cc in
      let target : Some z.target ≡ Some y.from = sym ((numbered_are n law).are m z here) ∙ goes in
      let from : z.target ≡ y.from = cc in
      let both = (these j y there).0 (sym from ∙ ap (λ w. w.target) is) in
      (both.0, both.1, y, there, null)

-- and so what a transition reads is there
pub read_edges : (n : Numbering) (old g : Digraph) (m start end next : ℕ) (x : Goto) → IsNumbering n
    → slice_get n.gotos m ≡ Some x → end ≤ next → next ≤ end
    → ((k : ℕ) (y : Goto) → slice_get n.gotos k ≡ Some y → (y.from ≡ x.target) ↔ ((start ≤ k) × (k < end)))
    → AreEdgesFrom old g m (IsNullableWithin n start next)
    → AreEdgesFrom old g m (IsRead n.automaton n.gotos m)
read_edges n old g m start end next x law at ge le these before i j = (to, back) where
  same : next ≡ end
  same = omega (arith, ge, le)

  to : IsEdge g i j → IsEdge old i j ⊎ ((i ≡ m) × IsRead n.automaton n.gotos m j)
  to has = elim ((before i j).0 has) [
    | inl was ↦ inl was
    | inr (from, is) ↦ inr (
      from,
      (nullable_read n m start end x law at these j).0
          (subst (λ k. IsNullableWithin n start k j) same is),
    )
  ]

  back : IsEdge old i j ⊎ ((i ≡ m) × IsRead n.automaton n.gotos m j) → IsEdge g i j
  back (inl was) = (before i j).1 (inl was)
  back (inr (from, is)) = (before i j).1 (inr (
    from,
    subst (λ k. IsNullableWithin n start k j) (sym same)
        ((nullable_read n m start end x law at these j).1 is),
  ))

-- edges from the nodes before one, where the relation is said of pairs of nodes below a count
abbrev pub AreEdgesBelow : Digraph → (ℕ → ℕ → Type 0) → ℕ → Type 0
AreEdgesBelow g R k = (i j : ℕ) → IsEdge g i j ↔ ((i < k) × R i j)

-- those from one more node
pub edges_below_more : (R : ℕ → ℕ → Type 0) (old new : Digraph) (k : ℕ) → AreEdgesBelow old R k
    → AreEdgesFrom old new k (R k) → AreEdgesBelow new R (k + 1)
edges_below_more R old new k before more i j = (to, back) where
  to : IsEdge new i j → (i < k + 1) × R i j
  to has = elim ((more i j).0 has) [
    | inl was ↦ let both = (before i j).0 was in (let lt = both.0 in omega (arith, lt), both.1)
    | inr (same, is) ↦ (omega (arith, same), subst (λ m. R m j) (sym same) is)
  ]

  back : (i < k + 1) × R i j → IsEdge new i j
  back (lt, is) = elim (cases_order i k) [
    | inl same ↦ (more i j).1 (inr (same, subst (λ m. R m j) same is))
    | inr (inl less) ↦ (more i j).1 (inl ((before i j).1 (less, is)))
    | inr (inr above) ↦ absurd (omega (arith, lt, above))
  ]

-- where there are no edges
pub edges_below_none : (R : ℕ → ℕ → Type 0) (g : Digraph) → g.edges ≡ [] → AreEdgesBelow g R 0
edges_below_none R g none i j = (
  (λ has. Contains-none (i, j) (subst (λ w. Contains w (i, j)) none has)),
  (λ both. absurd (let lt = both.0 in omega (arith, lt))),
)

-- and those from all
pub edges_all : (R : ℕ → ℕ → Type 0) (g : Digraph) (k count : ℕ) → count ≤ k → ((i j : ℕ) → R i j → i < count)
    → AreEdgesBelow g R k → (i j : ℕ) → IsEdge g i j ↔ R i j
edges_all R g k count all within below i j = (
  (λ has. ((below i j).0 has).1),
  (λ is. (below i j).1 (let lt = within i j is in omega (arith, lt, all), is)),
)

-- what reads is a transition
pub read_within : (n : Numbering) (i j : ℕ) → IsRead n.automaton n.gotos i j → i < length n.gotos
read_within n i j (x, y, here, there, reads) = slice_get_within n.gotos i x here
