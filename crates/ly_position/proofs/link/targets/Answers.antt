use Rattle.std.proofs.Common.{[], ap, get_or, map, refl, ◌∙◌}
use Rattle.ly_position.specs.Private.Program.{step_of}
use Rattle.ly_position.specs.declared.program.Instruction.TheVariants.{Fork, Read}
use Rattle.ly_position.proofs.NumberLemmas.{get-map_at, not_fork, numbered_fork, numbered_position}
use Rattle.ly_position.proofs.link.targets.Goals as goal
use Rattle.ly_position.proofs.link.targets.Goals.{in-Fork+in_ok-push+in_ok-forks}
use Rattle.ly_position.proofs.link.targets.Goals.{in_default+in_ok-push-2+in_ok-positions}

pub loop-instruction-preserved : goal.loop-instruction-preserved
loop-instruction-preserved c =
    let code = c.args.code.now in
    let i = c.loop-instruction.instruction-index in
    let g = map step_of code in
    let d = Read (record { words = [] }) 0 in
    let l = c.loop-instruction in
    elim c.match-instruction.branch [
      | in-Fork+in_ok-push+in_ok-forks w ↦
          let next = rw w.in_ok-forks.ensures.ok_part at w.checked_add.ensures in
          rw w.positions-is
          (numbered_fork g i l.targets.items l.positions l.forks l.invariant c.match-instruction.targets.items
          c.match-instruction.forks w.in-Fork.field-0 w.in-Fork.field-1
          (get-map_at step_of code i d (Fork w.in-Fork.field-0 w.in-Fork.field-1) c.loop-instruction-test.true
          w.in-Fork.is) (ap (λ v. v.items) w.targets-is ∙ w.in_ok-push.ensures.items) (w.forks-is ∙ next.1))
      | in_default+in_ok-push-2+in_ok-positions w ↦
          let n = get_or code i d in
          let next = rw w.in_ok-positions.ensures.ok_part at w.checked_add-in_default.ensures in
          rw w.forks-is
          (numbered_position g i l.targets.items l.positions l.forks l.invariant c.match-instruction.targets.items
          c.match-instruction.positions (step_of n) (get-map_at step_of code i d n c.loop-instruction-test.true refl)
          (not_fork n w.in_default.not-Fork) (ap (λ v. v.items) w.targets-is ∙ w.in_ok-push-2.ensures.items)
          (w.positions-is ∙ next.1))
    ]
