use Rattle.std.proofs.Common.{◌+◌, [], arith, map, refl, take, ◌∙◌}
use Rattle.ly_base.specs.ByteSet.{members}
use Rattle.ly_position.specs.Private.Program.{ends, fork, reads, step_of}
use Rattle.ly_position.specs.declared.nfa.Slot.TheVariants as slot
use Rattle.ly_position.specs.declared.program.Instruction.TheVariants.{End, Fork, Read}
use Rattle.ly_position.proofs.NumberLemmas.{fork_inside, linked_fork, linked_position, read_inside, steps_more}
use Rattle.ly_position.proofs.NumberLemmas.{target_there}
use Rattle.ly_position.proofs.link.link.Goals as goal
use Rattle.ly_position.proofs.link.link.Goals.{in-Read+in_ok-push-in-Read, in-Fork+in_ok-push-in-Fork}
use Rattle.ly_position.proofs.link.link.Goals.{in-End+in_ok-push-in-End}

pub index-requires : goal.index-requires
index-requires c =
    let q = read_inside c.args.code.now c.loop-instruction.instruction-index (Read (record { words = [] }) 0) c.requires
    c.loop-instruction-test.true c.in-Read.bytes c.in-Read.next c.in-Read.is in
    omega (arith, c.in_ok-targets.ensures.count, c.in_ok-targets.targets.ok.0)

pub index-requires-in-Fork : goal.index-requires-in-Fork
index-requires-in-Fork c =
    let q = fork_inside c.args.code.now c.loop-instruction.instruction-index (Read (record { words = [] }) 0) c.requires
    c.loop-instruction-test.true c.in-Fork.first c.in-Fork.second c.in-Fork.is in
    omega (arith, q.0, c.in_ok-targets.ensures.count, c.in_ok-targets.targets.ok.0)

pub index-requires-in-Fork-2 : goal.index-requires-in-Fork-2
index-requires-in-Fork-2 c =
    let q = fork_inside c.args.code.now c.loop-instruction.instruction-index (Read (record { words = [] }) 0) c.requires
    c.loop-instruction-test.true c.in-Fork.first c.in-Fork.second c.in-Fork.is in
    omega (arith, q.1, c.in_ok-targets.ensures.count, c.in_ok-targets.targets.ok.0)

pub loop-instruction-preserved : goal.loop-instruction-preserved
loop-instruction-preserved c =
    let code = c.args.code.now in
    let i = c.loop-instruction.instruction-index in
    let g = map step_of code in
    let h = map step_of (take i code) in
    let h' = map step_of (take (i + 1) code) in
    let d = Read (record { words = [] }) 0 in
    let less = c.loop-instruction-test.true in
    let l = c.loop-instruction in
    let ts = c.in_ok-targets.targets.items in
    let are = c.in_ok-targets.ensures in
    elim c.match-instruction.branch [
      | in-Read+in_ok-push-in-Read w ↦
          let inside = read_inside code i d c.requires less w.in-Read.bytes w.in-Read.next w.in-Read.is in
          let at = w.index.ensures ∙ target_there g ts w.in-Read.next w.index.result.now are inside in
          rw (w.slots-is, w.forks-is)
          (linked_position g h h' l.slots.items w.push.new.self.items l.forks.items l.forks.items
          (reads (members w.in-Read.bytes) w.in-Read.next) l.invariant
          (steps_more code i d (Read w.in-Read.bytes w.in-Read.next) less w.in-Read.is)
          (slot.Reads w.in-Read.bytes w.index.result.now) refl refl w.in_ok-push-in-Read.ensures.items refl (refl, at))
      | in-Fork+in_ok-push-in-Fork w ↦
          let inside = fork_inside code i d c.requires less w.in-Fork.first w.in-Fork.second w.in-Fork.is in
          let first = w.index-in-Fork.ensures
          ∙ target_there g ts w.in-Fork.first w.index-in-Fork.result.now are inside.0
          in
          let second = w.index-in-Fork-2.ensures
          ∙ target_there g ts w.in-Fork.second w.index-in-Fork-2.result.now are inside.1 in
          rw (w.slots-is, w.forks-is)
          (linked_fork g h h' l.slots.items l.slots.items l.forks.items w.push-in-Fork.new.self.items
          (fork w.in-Fork.first w.in-Fork.second) l.invariant
          (steps_more code i d (Fork w.in-Fork.first w.in-Fork.second) less w.in-Fork.is)
          (record { first = w.index-in-Fork.result.now; second = w.index-in-Fork-2.result.now })
          refl refl refl w.in_ok-push-in-Fork.ensures.items (first, second))
      | in-End+in_ok-push-in-End w ↦
          rw (w.slots-is, w.forks-is)
          (linked_position g h h' l.slots.items w.push-in-End.new.self.items l.forks.items l.forks.items
          (ends w.in-End.rule.0) l.invariant (steps_more code i d (End w.in-End.rule) less w.in-End.is)
          (slot.Ends w.in-End.rule) refl refl w.in_ok-push-in-End.ensures.items refl refl)
    ]
