use Rattle.std.proofs.Common.{inr, map, refl, take}
use Rattle.std.proofs.lemmas.Result.{err_from_is_err_and}
use Rattle.ly_join.specs.Scanning.{acting_of, IsScanAction}
use Rattle.ly_join.proofs.ListLemmas.{mapped_in, mapped_more, read_in, zip_push}
use Rattle.ly_join.proofs.scan_action.scan_actions.Goals as goal

pub returns-in_err-emits-clause-fault : goal.returns-in_err-emits-clause-fault
returns-in_err-emits-clause-fault c =
    let p = err_from_is_err_and c.from_residual.result c.from_residual.ensures.1 in
    rw (p.1, p.2) (inr (
      acting_of c.action-item.result,
      mapped_in acting_of c.args.actions.now c.action-item.result
          (read_in c.args.actions.now c.loop-action.action-index c.action-item.result c.loop-action-test.true
          c.action-item.is),
      c.in_err-emits.ensures.fault,
    ))

pub loop-action-preserved : goal.loop-action-preserved
loop-action-preserved c =
    let at = c.loop-action.action-index in
    let before = take at (map acting_of c.args.actions.now) in
    rw (
      mapped_more acting_of c.args.actions.now at c.action-item.result c.loop-action-test.true c.action-item.is,
      c.in_ok-push.ensures.items,
    )
    (zip_push (IsScanAction c.args.terminals.now) before c.loop-action.joined.items (acting_of c.action-item.result) _
    c.loop-action.invariant (record { begin = refl; emits = c.in_ok-emits.ensures.ok }))
