-- What is told of groups of conflicts.
use Rattle.std.proofs.Common.{◌≡◌, ◌∙◌, ◌<◌, ◌≤◌, ◌+◌, ◌++◌, [], ◌∷◌, ℕ, List, Some, ap, arith, inl, inr, length}
use Rattle.std.proofs.Common.{map, option_map, slice_get, slice_index_or, subst, sym}
use Rattle.std.specs.Prelude.{All, Contains, take}
use Rattle.std.proofs.Math.Nat.{eq-or-lt_of_le}
use Rattle.std.proofs.lemmas.List.{get_or-take, length-append, length-map, length-take}
use Rattle.std.proofs.lemmas.Option.{get_or_from_slice_get, same_Some, slice_get-get_or, slice_get_within}
use Rattle.ly_base.proofs.ListLemmas.{slice_get-append, slice_get-behind, some_at}
use Rattle.ly_base.specs.declared.numbers.Sym.{Sym}
use Rattle.ly_join.proofs.ListLemmas.{member_at}
use Rattle.ly_resolve.specs.Conflicts as spec
use Rattle.ly_resolve.specs.Resolved.{Resolved}
use Rattle.ly_resolve.specs.Values.{conflict_from, IsInside}
use Rattle.ly_resolve.specs.declared.conflict.Conflict.{Conflict}
use Rattle.ly_conflicts.specs.declared.groups.Group.{Group}
use Rattle.ly_conflicts.specs.declared.group_report.GroupReport.{GroupReport}
use Rattle.ly_conflicts.specs.Groups.{AreGroups, IsConflictAt, IsGroup}
use Rattle.ly_conflicts.specs.Private.Grouping.{IsAt}
use Rattle.ly_conflicts.specs.GroupReport.{AreGroupReports, IsGroupReport, most_told}
use Rattle.ly_conflicts.proofs.GroupLemmas.{pushed_at}
use Rattle.ly_conflicts.proofs.GroupsLemmas.{at_index}

-- one terminal more
pub terminal_more : (r : Resolved) (group : List ℕ) (n : ℕ) (old new : List Sym) (t : Sym) (j : ℕ) (x : Conflict)
    → slice_get group n ≡ Some j → IsAt r j x → x.terminal ≡ t → new ≡ old ++ t ∷ [] → length old ≡ n
    → ((p i : ℕ) (c : spec.Conflict) → p < n → slice_get group p ≡ Some i → IsConflictAt r i c
    → option_map (λ t. t.0) (slice_get old p) ≡ Some c.terminal)
    → (length new ≡ n + 1) × ((p i : ℕ) (c : spec.Conflict) → p < n + 1 → slice_get group p ≡ Some i
    → IsConflictAt r i c → option_map (λ t. t.0) (slice_get new p) ≡ Some c.terminal)
terminal_more r group n old new t j x here is terminal pushed count before = (
  ap length pushed ∙ length-append old (t ∷ []) ∙ ap (λ m. m + 1) count,
  λ p i c lt at conflict.
      let le : p ≤ n = omega (arith, lt) in
      elim (eq-or-lt_of_le le) [
        | inl same ↦
            let index : j ≡ i = same_Some j i (sym here ∙ subst (λ q. slice_get group q ≡ Some i) same at) in
            let one : conflict_from r.automaton x ≡ c
            = same_Some _ _ (sym is.at ∙ subst (λ q. slice_get r.conflicts q ≡ Some c) (sym index) conflict) in
            let last : slice_get new p ≡ Some t
            = ap (λ ts. slice_get ts p) pushed ∙ slice_get-behind old [] p t (count ∙ sym same) in
            ap (option_map (λ u. u.0)) last ∙ ap (λ u. Some u.0) (sym terminal) ∙ ap (λ d. Some d.terminal) one
        | inr earlier ↦
            let there = some_at old p (omega (arith, earlier, count)) in
            ap (λ ts. option_map (λ u. u.0) (slice_get ts p)) pushed
            ∙ ap (option_map (λ u. u.0)) (slice_get-append old (t ∷ []) p there.0 there.1)
            ∙ ap (option_map (λ u. u.0)) (sym there.1)
            ∙ before p i c earlier at conflict
      ],
)

-- the index that stands first in a group
pub first_index : (r : Resolved) (g : Group) → (group : IsGroup r g) → (index : ℕ)
    → index ≡ slice_index_or g.conflicts.items 0 index → (index ≡ group.first) × (index < length r.conflicts)
first_index r g group index begins =
    let first : index ≡ group.first
    = begins ∙ get_or_from_slice_get g.conflicts.items 0 group.first index group.begins in
    (first, omega (arith, first, slice_get_within r.conflicts group.first group.conflict group.is_first))

-- and its conflict
pub first_at : (r : Resolved) (g : Group) → (group : IsGroup r g) → (index : ℕ) (x : Conflict) → index ≡ group.first
    → IsAt r index x → group.conflict ≡ conflict_from r.automaton x
first_at r g group index x first is =
    same_Some _ _ (sym group.is_first ∙ ap (slice_get r.conflicts) (sym first) ∙ is.at)

-- what stands among the first stands there
taken_at : {X : Type 0} (n : ℕ) (xs : List X) (p : ℕ) (x : X) → slice_get (take n xs) p ≡ Some x
    → slice_get xs p ≡ Some x
taken_at n xs p x at =
    let lt = slice_get_within (take n xs) p x at in
    slice_get-get_or xs p x (omega (arith, lt, length-take n xs))
    ∙ ap Some (sym (get_or-take n xs p x (omega (arith, lt, length-take n xs)))
    ∙ get_or_from_slice_get (take n xs) p x x at)

at_taken : {X : Type 0} (n : ℕ) (xs : List X) (p : ℕ) (x : X) → slice_get xs p ≡ Some x → p < length (take n xs)
    → slice_get (take n xs) p ≡ Some x
at_taken n xs p x at lt = slice_get-get_or (take n xs) p x lt
    ∙ ap Some (get_or-take n xs p x (omega (arith, lt, length-take n xs)) ∙ get_or_from_slice_get xs p x x at)

module _ (r : Resolved) (groups items : List Group) (same : items ≡ take most_told groups) where
  -- a group that is told is a group
  pub told_group : AreGroups r groups → (p : ℕ) (g : Group) → slice_get items p ≡ Some g → IsGroup r g
  told_group all p g at = all.are g (member_at groups p g
      (taken_at most_told groups p g (subst (λ xs. slice_get xs p ≡ Some g) same at)))

  -- one group more is told
  pub told_more : (n : ℕ) (old new : List GroupReport) (g : Group) (t : GroupReport) → slice_get items n ≡ Some g
      → IsGroupReport r g.conflicts.items t → new ≡ old ++ t ∷ [] → length old ≡ n
      → ((p : ℕ) (h : Group) (u : GroupReport) → slice_get items p ≡ Some h → slice_get old p ≡ Some u
      → IsGroupReport r h.conflicts.items u)
      → (length new ≡ n + 1)
      × ((p : ℕ) (h : Group) (u : GroupReport) → slice_get items p ≡ Some h → slice_get new p ≡ Some u
      → IsGroupReport r h.conflicts.items u)
  told_more n old new g t here is pushed count before = (
    ap length pushed ∙ length-append old (t ∷ []) ∙ ap (λ m. m + 1) count,
    λ p h u at said. elim (pushed_at old t p u (subst (λ ts. slice_get ts p ≡ Some u) pushed said)) [
      | inl was ↦ before p h u at was
      | inr last ↦
          let group : g ≡ h
          = same_Some g h (sym here ∙ subst (λ q. slice_get items q ≡ Some h) (last.0 ∙ count) at) in
          subst (IsGroupReport r h.conflicts.items) last.1 (subst (λ x. IsGroupReport r x.conflicts.items t) group is)
    ],
  )

  -- all are told
  pub told_all : (n : ℕ) (told : List GroupReport) → length told ≡ n → n ≡ length items
      → ((p : ℕ) (h : Group) (u : GroupReport) → slice_get items p ≡ Some h → slice_get told p ≡ Some u
      → IsGroupReport r h.conflicts.items u) → AreGroupReports r groups told
  told_all n told count end each = record {
    count = count ∙ end ∙ ap length same ∙ length-take most_told groups;
    each = λ p g t at said. each p g t
        (subst (λ xs. slice_get xs p ≡ Some g) (sym same) (at_taken most_told groups p g at
        (omega (arith, slice_get_within told p t said, count, end, ap length same)))) said;
  }
