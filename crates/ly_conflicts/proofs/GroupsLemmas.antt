-- All conflicts in groups.
use Rattle.std.proofs.Common.{◌≡◌, ◌≢◌, ◌∙◌, ◌<◌, ℕ, List, Option, Some, ap, ap₂, arith, inl, inr}
use Rattle.std.proofs.Common.{length, map, option_map, refl, slice_get, slice_index_or, subst, sym}
use Rattle.std.specs.Prelude.{All}
use Rattle.std.proofs.lemmas.Bool.{cases_order}
use Rattle.std.proofs.lemmas.Option.{same_Some, slice_get-get_or, slice_get-map, slice_get_within}
use Rattle.ly_base.proofs.ListLemmas.{All-at, some_at}
use Rattle.ly_join.proofs.ListLemmas.{member_at, placed}
use Rattle.ly_lr0.specs.Automaton.{ComesBefore, IsLr0Automaton, Lr0Automaton, prefix_of}
use Rattle.ly_lr0.proofs.OrderLemmas.{not_before_itself}
use Rattle.ly_resolve.specs.Actions as actions
use Rattle.ly_resolve.specs.Conflicts.{reduce_reduce}
use Rattle.ly_resolve.specs.Resolved.{Resolved}
use Rattle.ly_resolve.specs.Values.{action_from, conflict_from, kind_from, IsInside}
use Rattle.ly_resolve.specs.declared.action.Action.{Action}
use Rattle.ly_resolve.specs.declared.action.Action.TheVariants.{Shift, Reduce, Error}
use Rattle.ly_resolve.specs.declared.conflict.Conflict.{Conflict}
use Rattle.ly_resolve.specs.declared.conflict.ConflictKind.{ConflictKind}
use Rattle.ly_resolve.specs.declared.conflict.ConflictKind.TheVariants.{ShiftReduce, ReduceReduce}
use Rattle.ly_counterexamples.specs.declared.example.Example.{Example}
use Rattle.ly_conflicts.specs.declared.common.Key.{Key}
use Rattle.ly_conflicts.specs.declared.groups.Group.{Group}
use Rattle.ly_conflicts.specs.Groups.{answer_from, AreApart, AreGroups, DifferInTerminal, IsGroup, IsTrueOf}
use Rattle.ly_conflicts.specs.Private.Grouping.{AreGroupsBelow, HasKey, IsAt, IsGroupBelow}
use Rattle.ly_conflicts.specs.Private.Keys.{asked_of, choice_from, common_from, is_shift, key_from}

same_kind : (k l : ConflictKind) → is_shift k ≡ is_shift l → kind_from k ≡ kind_from l
same_kind ShiftReduce ShiftReduce e = refl
same_kind ReduceReduce ReduceReduce e = refl
same_kind ShiftReduce ReduceReduce e = absurd (cc)
same_kind ReduceReduce ShiftReduce e = absurd (cc)

same_flag : (k l : ConflictKind) → kind_from k ≡ kind_from l → is_shift k ≡ is_shift l
same_flag ShiftReduce ShiftReduce e = refl
same_flag ReduceReduce ReduceReduce e = refl
same_flag ShiftReduce ReduceReduce e = absurd (cc)
same_flag ReduceReduce ShiftReduce e = absurd (cc)

same_action : (a b : Action) → choice_from a ≡ choice_from b → action_from a ≡ action_from b
same_action Shift Shift e = refl
same_action (Reduce p) (Reduce q) e = ap actions.reduce (cc)
same_action Error Error e = refl
same_action Shift (Reduce q) e = absurd (cc)
same_action Shift Error e = absurd (cc)
same_action (Reduce p) Shift e = absurd (cc)
same_action (Reduce p) Error e = absurd (cc)
same_action Error Shift e = absurd (cc)
same_action Error (Reduce q) e = absurd (cc)

same_choice : (a b : Action) → action_from a ≡ action_from b → choice_from a ≡ choice_from b
same_choice Shift Shift e = refl
same_choice (Reduce p) (Reduce q) e = cc
same_choice Error Error e = refl
same_choice Shift (Reduce q) e = absurd (cc)
same_choice Shift Error e = absurd (cc)
same_choice (Reduce p) Shift e = absurd (cc)
same_choice (Reduce p) Error e = absurd (cc)
same_choice Error Shift e = absurd (cc)
same_choice Error (Reduce q) e = absurd (cc)

-- conflicts with the same in common differ in the terminal alone
differ : (M : Lr0Automaton) (x y : Conflict) → common_from x ≡ common_from y
    → DifferInTerminal (conflict_from M x) (conflict_from M y)
differ M x y e = (
  ap (λ m. prefix_of M m.state) e,
  same_kind x.kind y.kind (ap (λ m. m.is_shift) e),
  ap (λ m. m.rule) e,
  same_action x.choice y.choice (ap (λ m. m.choice) e),
)

-- states with the same prefix are one
same_state : (M : Lr0Automaton) → IsLr0Automaton M → (s t : ℕ) → s < length M.states → t < length M.states
    → prefix_of M s ≡ prefix_of M t → s ≡ t
same_state M lawful s t a b e = elim (cases_order s t) [
  | inl same ↦ same
  | inr other ↦ elim other [
    | inl less ↦ absurd (not_before_itself (prefix_of M t)
        (subst (λ g. ComesBefore g (prefix_of M t)) e (lawful.numbered.rising s t less b)))
    | inr more ↦ absurd (not_before_itself (prefix_of M t)
        (subst (ComesBefore (prefix_of M t)) e (lawful.numbered.rising t s more a)))
  ]
]

-- and conflicts that differ in the terminal alone have the same in common
alike : (M : Lr0Automaton) → IsLr0Automaton M → (x y : Conflict) → IsInside M x → IsInside M y
    → DifferInTerminal (conflict_from M x) (conflict_from M y) → common_from x ≡ common_from y
alike M lawful x y a b e =
    let state = same_state M lawful x.state.0 y.state.0 a.state b.state e.0 in
    let kind = same_flag x.kind y.kind e.1 in
    let choice = same_choice x.choice y.choice e.3 in
    ap (λ s. record { state = s; rule = x.rule.0; choice = choice_from x.choice; is_shift = is_shift x.kind }) state
    ∙ ap (λ p. record { state = y.state.0; rule = p; choice = choice_from x.choice; is_shift = is_shift x.kind }) e.2
    ∙ ap (λ c. record { state = y.state.0; rule = y.rule.0; choice = c; is_shift = is_shift x.kind }) choice
    ∙ ap (λ f. record { state = y.state.0; rule = y.rule.0; choice = choice_from y.choice; is_shift = f }) kind

-- of a reduction what was answered is asked
asked_reduction : (k : ConflictKind) (example : Option Example) → kind_from k ≡ reduce_reduce
    → asked_of k example ≡ answer_from example
asked_reduction ReduceReduce example e = refl
asked_reduction ShiftReduce example e = absurd (cc)

-- groups with other keys whose conflicts have the same in common are of reductions, and something else was answered
apart_kinds : (k l : ConflictKind) (e f : Option Example) → is_shift k ≡ is_shift l → (asked_of k e ≢ asked_of l f)
    → (kind_from k ≡ reduce_reduce) × (answer_from e ≢ answer_from f)
apart_kinds ReduceReduce ReduceReduce e f same other = (refl, other)
apart_kinds ShiftReduce ShiftReduce e f same other = absurd (other refl)
apart_kinds ReduceReduce ShiftReduce e f same other = absurd (cc)
apart_kinds ShiftReduce ReduceReduce e f same other = absurd (cc)

apart_keys : (x y : Conflict) (e f : Option Example) → common_from x ≡ common_from y → (key_from x e ≢ key_from y f)
    → (kind_from x.kind ≡ reduce_reduce) × (answer_from e ≢ answer_from f)
apart_keys x y e f same other = apart_kinds x.kind y.kind e f (ap (λ m. m.is_shift) same)
    (λ answers. other (ap₂ (λ m a. record { common = m; answer = a }) same answers))

module _ (r : Resolved) where
  group_of : (n : ℕ) (k : Key) (g : Group) → IsGroupBelow r n k g → IsGroup r g
  group_of n k g h = record {
    first = h.first;
    begins = h.begins;
    rising = h.rising;
    conflict = conflict_from r.automaton h.conflict;
    is_first = h.is_first.at;
    example = h.example;
    alike = λ i has.
        let one = h.keyed i has in
        let common : common_from h.conflict ≡ common_from one.conflict
        = ap (λ m. m.common) (sym h.key) ∙ sym one.common in (
          conflict_from r.automaton one.conflict,
          one.is.at,
          differ r.automaton h.conflict one.conflict common,
          λ is. subst (IsTrueOf r.automaton (conflict_from r.automaton one.conflict))
              (ap (λ m. m.answer) h.key ∙ asked_reduction h.conflict.kind g.example
              (same_kind h.conflict.kind one.conflict.kind (ap (λ m. m.is_shift) common) ∙ is)) one.answer,
        );
  }

  module _ (lawful : IsLr0Automaton r.automaton) (keys : List Key) (groups : List Group)
      (are : AreGroupsBelow r (length r.conflicts) keys groups) where
    key_at : (p : ℕ) (g : Group) → slice_get groups p ≡ Some g
        → (k : Key) × (slice_get keys p ≡ Some k) × IsGroupBelow r (length r.conflicts) k g
    key_at p g at =
        let k = some_at keys p (omega (arith, are.count, slice_get_within groups p g at)) in
        (k.0, k.1, are.are p k.0 g k.1 at)

    group_at : (p : ℕ) (d : Group) → p < length groups → slice_get groups p ≡ Some (slice_index_or groups p d)
    group_at p d lt = slice_get-get_or groups p d lt

    -- the conflict of an index is the one that has its key
    common_at : (k : Key) (i : ℕ) (x : Conflict) → HasKey r k i
        → slice_get r.conflicts i ≡ Some (conflict_from r.automaton x) → IsInside r.automaton x
        → common_from x ≡ k.common
    common_at k i x has at inside = alike r.automaton lawful x has.conflict inside has.is.inside
        (let same : conflict_from r.automaton x ≡ conflict_from r.automaton has.conflict
        = same_Some _ _ (sym at ∙ has.is.at) in (
          ap (λ c. c.prefix) same,
          ap (λ c. c.kind) same,
          ap (λ c. c.rule) same,
          ap (λ c. c.choice) same,
        )) ∙ has.common

    apart : (p q : ℕ) (g h : Group) → p < q → slice_get groups p ≡ Some g → slice_get groups q ≡ Some h → AreApart r g h
    apart p q g h lt a b = λ i j c d hasg hash isc isd same.
        let k = key_at p g a in
        let l = key_at q h b in
        let one = k.2.keyed i hasg in
        let other = l.2.keyed j hash in
        let c_is : c ≡ conflict_from r.automaton one.conflict = same_Some _ _ (sym isc ∙ one.is.at) in
        let d_is : d ≡ conflict_from r.automaton other.conflict = same_Some _ _ (sym isd ∙ other.is.at) in
        let both : common_from one.conflict ≡ common_from other.conflict
        = alike r.automaton lawful one.conflict other.conflict one.is.inside other.is.inside
        (subst (λ x. DifferInTerminal x (conflict_from r.automaton other.conflict)) c_is
        (subst (DifferInTerminal c) d_is same)) in
        let commons : common_from k.2.conflict ≡ common_from l.2.conflict
        = ap (λ m. m.common) (sym k.2.key) ∙ sym one.common ∙ both ∙ other.common ∙ ap (λ m. m.common) l.2.key in
        let keys_differ : key_from k.2.conflict g.example ≢ key_from l.2.conflict h.example
        = λ e.
        let equal : l.0 ≡ k.0 = l.2.key ∙ sym e ∙ sym k.2.key in
        let at_q : slice_get keys q ≡ Some k.0 = subst (λ m. slice_get keys q ≡ Some m) equal l.1 in
        absurd (omega (arith, lt, are.distinct p q k.0 k.1 at_q)) in
        let found = apart_keys k.2.conflict l.2.conflict g.example h.example commons keys_differ in
        let kind : kind_from one.conflict.kind ≡ kind_from k.2.conflict.kind
        = same_kind one.conflict.kind k.2.conflict.kind
        (ap (λ m. m.is_shift) (one.common ∙ ap (λ m. m.common) k.2.key)) in
        (ap (λ x. x.kind) c_is ∙ kind ∙ found.0, found.1)

    pub all_groups : AreGroups r groups
    all_groups = record {
      are = λ g has.
          let p = placed groups g has in
          let k = key_at p.0 g p.1 in
          group_of (length r.conflicts) k.0 g k.2;
      each = λ i lt.
          let one = are.each i lt in
          (one.1, member_at groups one.0 one.1 one.2, one.3);
      once = λ p q d lt inside i a b.
          absurd (omega (
            arith,
            lt,
            are.once p q i (slice_index_or groups p d) (slice_index_or groups q d)
                (group_at p d (omega (arith, lt, inside))) (group_at q d inside) a b,
          ));
      ordered = λ p q d lt inside. are.ordered p q (slice_index_or groups p d) (slice_index_or groups q d) lt
          (group_at p d (omega (arith, lt, inside))) (group_at q d inside);
      apart = λ p q d lt inside. apart p q (slice_index_or groups p d) (slice_index_or groups q d) lt
          (group_at p d (omega (arith, lt, inside))) (group_at q d inside);
    }

-- the conflict of an index
pub at_index : (r : Resolved) (M : Lr0Automaton) (xs : List Conflict) (i : ℕ) (x : Conflict) → M ≡ r.automaton
    → map (conflict_from M) xs ≡ r.conflicts → All (IsInside M) xs → slice_get xs i ≡ Some x → IsAt r i x
at_index r M xs i x same these inside at = record {
  at = ap (λ cs. slice_get cs i) (sym these) ∙ slice_get-map (conflict_from M) xs i
      ∙ ap (option_map (conflict_from M)) at ∙ ap (λ m. Some (conflict_from m x)) same;
  inside = subst (λ m. IsInside m x) same (All-at (IsInside M) xs i x inside at);
}
