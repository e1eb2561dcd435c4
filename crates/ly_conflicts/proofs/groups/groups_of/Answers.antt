use Rattle.std.proofs.Common.{◌≡◌, ◌∙◌, ap, arith, length, subst, sym}
use Rattle.std.proofs.lemmas.List.{length-map}
use Rattle.ly_join.proofs.ListLemmas.{member_at}
use Rattle.ly_lr0.specs.Automaton.{IsLr0Automaton}
use Rattle.ly_resolve.specs.Values.{conflict_from}
use Rattle.ly_conflicts.specs.Private.Grouping.{AreGroupsBelow, IsSought}
use Rattle.ly_conflicts.proofs.GroupsLemmas.{all_groups, at_index}
use Rattle.ly_conflicts.proofs.groups.groups_of.Goals as goal
use Rattle.ly_conflicts.proofs.groups.groups_of.Goals.{then-asks_for+in_ok-example, else-asks_for}

pub example_of-requires-clause-inside : goal.example_of-requires-clause-inside
example_of-requires-clause-inside c =
    (at_index c.args.examples.now c.resolved-resolved.result.now.automaton c.conflicts-conflicts.result.now
    c.loop-index.index c.unwrap-conflict.result (ap (λ v. v.automaton) c.resolved-resolved.ensures)
    (c.conflicts-conflicts.ensures.these ∙ ap (λ v. v.conflicts) c.resolved-resolved.ensures)
    c.conflicts-conflicts.ensures.inside (sym c.get_near.ensures ∙ c.unwrap-conflict.ensures)).inside

pub example_of-requires-clause-conflict : goal.example_of-requires-clause-conflict
example_of-requires-clause-conflict c = member_at c.args.examples.now.conflicts c.loop-index.index _
    (at_index c.args.examples.now c.resolved-resolved.result.now.automaton c.conflicts-conflicts.result.now
    c.loop-index.index c.unwrap-conflict.result (ap (λ v. v.automaton) c.resolved-resolved.ensures)
    (c.conflicts-conflicts.ensures.these ∙ ap (λ v. v.conflicts) c.resolved-resolved.ensures)
    c.conflicts-conflicts.ensures.inside (sym c.get_near.ensures ∙ c.unwrap-conflict.ensures)).at

pub loop-index-preserved : goal.loop-index-preserved
loop-index-preserved c =
    let r = c.args.examples.now in
    let conflicts = c.conflicts-conflicts in
    let same = c.resolved-resolved.ensures in
    c.in_ok-add.ensures r
    (at_index r c.resolved-resolved.result.now.automaton conflicts.result.now c.loop-index.index
    c.unwrap-conflict.result (ap (λ v. v.automaton) same) (conflicts.ensures.these ∙ ap (λ v. v.conflicts) same)
    conflicts.ensures.inside (sym c.get_near.ensures ∙ c.unwrap-conflict.ensures))
    (elim c.if-asks_for.branch [
      | then-asks_for+in_ok-example w ↦ subst (IsSought r _) (sym w.example-is) w.in_ok-example.ensures
      | else-asks_for w ↦ subst (IsSought r _) (sym w.example-is) tt
    ]) c.loop-index.invariant

pub returns : goal.returns
returns c =
    let r = c.args.examples.now in
    let resolved = c.resolved-resolved in
    let conflicts = c.conflicts-conflicts in
    let groups = c.loop-index.groups in
    let lawful = subst IsLr0Automaton (c.lr0.ensures.these ∙ ap (λ v. v.automaton) resolved.ensures)
    c.states-states.ensures.lawful in
    let count : length conflicts.result.now ≡ length r.conflicts
    = sym (length-map conflicts.result.now (conflict_from resolved.result.now.automaton))
    ∙ ap length (conflicts.ensures.these ∙ ap (λ v. v.conflicts) resolved.ensures) in
    let n : c.loop-index.index ≡ length r.conflicts
    = omega (arith, count, c.loop-index-test.false, c.loop-index.auto.index-end, c.len-index-end.ensures) in
    all_groups r lawful groups.keys groups.list.items
    (subst (λ m. AreGroupsBelow r m groups.keys groups.list.items) n c.loop-index.invariant)
