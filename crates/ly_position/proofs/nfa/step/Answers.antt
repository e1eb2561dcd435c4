use Rattle.std.proofs.Common.{◌≡◌, ◌<◌, [], get_or, length, take}
use Rattle.std.proofs.lemmas.List.{take_all}
use Rattle.ly_position.specs.Private.Targets.{GoesOn}
use Rattle.ly_position.specs.declared.nfa.Slot.TheVariants.{Reads}
use Rattle.ly_position.specs.declared.nfa.Target.TheVariants.{Position}
use Rattle.ly_position.proofs.SetLemmas.{puts_all, puts_one, puts_skip}
use Rattle.ly_position.proofs.StepLemmas.{goes_nowhere, goes_on, goes_on_once}
use Rattle.ly_position.proofs.nfa.step.Goals as goal
use Rattle.ly_position.proofs.nfa.step.Goals.{in-Some, in_default}

pub loop-number-preserved : goal.loop-number-preserved
loop-number-preserved c =
    let slots = c.args.slots.now in
    let byte = c.args.byte in
    let items = c.args.from.now in
    let i = c.loop-number.number-index in
    let p = get_or items i 0 in
    let d = Reads (record { words = [] }) (Position 0) in
    let less : p < length slots = c.requires.from i 0 c.loop-number-test.true in
    elim c.match-target_after.branch [
      | in-Some w ↦
          rw w.into-is
          (puts_one (GoesOn slots byte) c.args.into.now c.loop-number.into items i c.loop-number-test.true
          c.loop-number.invariant w.put.new.self w.in-Some.next
          (goes_on slots byte p d c.target_after.result less c.target_after.ensures w.in-Some.next w.in-Some.is)
          (goes_on_once slots byte p d c.target_after.result less c.target_after.ensures w.in-Some.next w.in-Some.is)
          w.put.ensures.added w.put.ensures.room)
      | in_default w ↦
          rw w.into-is
          (puts_skip (GoesOn slots byte) c.args.into.now c.loop-number.into items i c.loop-number-test.true
          c.loop-number.invariant
          (goes_nowhere slots byte p d c.target_after.result less c.target_after.ensures w.in_default.is))
    ]

pub returns-clause-members : goal.returns-clause-members
returns-clause-members c =
    let items = c.args.from.now in
    let all : take c.loop-number.number-index items ≡ items =
    take_all c.loop-number.number-index items c.loop-number-test.false in
    puts_all (GoesOn c.args.slots.now c.args.byte) c.args.into.now c.loop-number.into c.args.forks.now
    c.follow.new.self items (rw all at c.loop-number.invariant) c.follow.ensures.closed
