use Rattle.std.proofs.Common.{◌∙◌, ap, get_or, sym, take}
use Rattle.std.proofs.lemmas.List.{take_all, take_more}
use Rattle.ly_pack.specs.Private.Tally.{cells_by, times}
use Rattle.ly_pack.specs.declared.action.TableAction as code
use Rattle.ly_pack.specs.declared.action.TableAction.TheVariants.{Shift}
use Rattle.ly_pack.specs.declared.cell.Cell.{Cell}
use Rattle.ly_pack.proofs.TallyLemmas.{cells_by-all, cells_by-other, cells_by-rule}
use Rattle.ly_pack.proofs.tally.list_rules.Goals as goal
use Rattle.ly_pack.proofs.tally.list_rules.Goals.{in-Reduce+in_ok-push, in_default}

pub loop-cell-preserved : goal.loop-cell-preserved
loop-cell-preserved c p =
    let none : Cell code.TableAction = record { column = 0; entry = Shift (record { 0 = 0 }) } in
    let cells = c.row-cell-items.result.now in
    let k = c.loop-cell.cell-index in
    let e = get_or cells k none in
    let more = ap (cells_by p) (sym (take_more cells k none c.loop-cell-test.true)) in
    elim c.match-cell.branch [
      | in-Reduce+in_ok-push w ↦ ap (λ v. times p v.items) w.rules-is ∙ ap (times p) w.in_ok-push.ensures.items
          ∙ cells_by-rule p (take k cells) e w.in-Reduce.rule c.loop-cell.rules.items w.in-Reduce.is
          (c.loop-cell.invariant p) ∙ more
      | in_default w ↦ ap (λ v. times p v.items) w.rules-is ∙ c.loop-cell.invariant p
          ∙ sym (cells_by-other p (take k cells) e w.in_default.not-Reduce) ∙ more
    ]

pub returns : goal.returns
returns c p = c.loop-cell.invariant p
    ∙ ap (cells_by p) (take_all c.loop-cell.cell-index c.row-cell-items.result.now c.loop-cell-test.false)
    ∙ cells_by-all c.args.actions.now c.args.state.0 p c.row-cell-items.result.now c.row-cell-items.ensures.these
    c.row-cell-items.ensures.within
