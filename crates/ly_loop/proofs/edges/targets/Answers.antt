use Rattle.std.proofs.Common.{[], ap, get_or, subst, sym, take, ◌∙◌}
use Rattle.std.proofs.lemmas.List.{take_all, take_more}
use Rattle.std.proofs.lemmas.List.Filters.{dedup_is}
use Rattle.std.proofs.lemmas.List.Kept.{Contains-dedup, Contains-from_dedup}
use Rattle.std.proofs.lemmas.List.Sorted.{Contains-permutation, IsPermutation-sym}
use Rattle.ly_base.specs.contracts.numbers.StateNoEq.TheImpl.Laws as eq
use Rattle.ly_loop.specs.Private.Edges.{AreTargetsOf}
use Rattle.ly_loop.proofs.EntryLemmas.{no_entry, no_goto}
use Rattle.ly_loop.proofs.TargetLemmas.{state_eq, targets_goto, targets_none, targets_other, targets_same}
use Rattle.ly_loop.proofs.TargetLemmas.{targets_shift}
use Rattle.ly_loop.proofs.edges.targets.Goals as goal
use Rattle.ly_loop.proofs.edges.targets.Goals.{in-Shift+in_ok-push, in_default}

pub loop-cell-init : goal.loop-cell-init
loop-cell-init c = subst (AreTargetsOf [] []) (sym c.clear.ensures.items) targets_none

pub loop-cell-preserved : goal.loop-cell-preserved
loop-cell-preserved c =
    let entries = c.args.entries.now in
    let k = c.loop-cell.cell-index in
    let lt = c.loop-cell-test.true in
    let e = get_or entries k no_entry in
    let was = c.loop-cell.invariant in
    let targets = c.loop-cell.targets.items in
    subst (λ es. AreTargetsOf es [] c.match-cell.targets.items) (sym (take_more entries k no_entry lt))
    (elim c.match-cell.branch [
      | in-Shift+in_ok-push w ↦ subst (AreTargetsOf _ [])
          (sym (ap (λ v. v.items) w.targets-is ∙ w.in_ok-push.ensures.items))
          (targets_shift (take k entries) [] targets was e w.in-Shift.next w.in-Shift.is)
      | in_default w ↦ subst (AreTargetsOf _ []) (sym (ap (λ v. v.items) w.targets-is))
          (targets_other (take k entries) [] targets was e w.in_default.not-Shift)
    ])

pub loop-led-init : goal.loop-led-init
loop-led-init c = subst (λ es. AreTargetsOf es [] c.loop-cell.targets.items)
    (take_all c.loop-cell.cell-index c.args.entries.now c.loop-cell-test.false) c.loop-cell.invariant

pub loop-led-preserved : goal.loop-led-preserved
loop-led-preserved c =
    let gotos = c.args.gotos.now in
    let k = c.loop-led.led-index in
    let e = get_or gotos k no_goto in
    let targets = c.loop-led.targets.items in
    subst (λ gs. AreTargetsOf c.args.entries.now gs c.push-in-loop-led.new.self.items)
    (sym (take_more gotos k no_goto c.loop-led-test.true))
    (subst (AreTargetsOf c.args.entries.now _) (sym c.in_ok-push-2.ensures.items)
    (targets_goto c.args.entries.now (take k gotos) targets c.loop-led.invariant e))

pub returns : goal.returns
returns c =
    let is = dedup_is _ _ _ c.dedup.ensures.filtered in
    let moved = c.sort_unstable.ensures.permutation in
    targets_same c.args.entries.now c.args.gotos.now c.loop-led.targets.items _
    (λ s h. Contains-permutation _ _ s (IsPermutation-sym _ _ moved) (Contains-from_dedup _ _ s (rw is at h)))
    (λ s h. rw is (Contains-dedup (eq.laws-law) state_eq _ s (Contains-permutation _ _ s moved h)))
    (subst (λ gs. AreTargetsOf c.args.entries.now gs c.loop-led.targets.items)
    (take_all c.loop-led.led-index c.args.gotos.now c.loop-led-test.false) c.loop-led.invariant)
