use Rattle.std.proofs.Common.{ap, arith, length}
use Rattle.ly_position.specs.declared.nfa.Target.TheVariants.{Position}
use Rattle.ly_position.proofs.SetLemmas.{closing_all, closing_next, closing_none}
use Rattle.ly_position.proofs.set.PositionSet.follow.Goals as goal

pub loop-done-init : goal.loop-done-init
loop-done-init c = closing_none c.args.forks.now c.args.self.now c.requires.few

pub loop-done-preserved : goal.loop-done-preserved
loop-done-preserved c =
    let shown = c.members-in-loop-done in
    let less = c.loop-done-test.true in
    let same = c.members.ensures.these in
    let again = shown.ensures.these in
    closing_next c.args.forks.now c.args.self.now c.loop-done.self c.put.new.self c.put-in-loop-done.new.self
    shown.result.now c.loop-done.done (record { first = Position 0; second = Position 0 }) c.loop-done.invariant again
    (omega (arith, ap length same, ap length again))
    (let in_bound = shown.ensures.within c.loop-done.done 0 (omega (arith, ap length same, ap length again)) in
    let room = c.loop-done.invariant.room.forks in
    omega (arith, c.requires.room))
    c.put.ensures.added c.put-in-loop-done.ensures.added c.put-in-loop-done.ensures.room c.put.ensures.room

pub returns-clause-closed : goal.returns-clause-closed
returns-clause-closed c =
    closing_all c.args.forks.now c.args.self.now c.loop-done.self c.loop-done.done c.loop-done.invariant
    (let done = c.loop-done-test.false in omega (arith, ap length c.members.ensures.these))
