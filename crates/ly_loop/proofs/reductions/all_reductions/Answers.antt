use Rattle.std.proofs.Common.{◌∙◌, ◌+◌, ap, length, slice_get, sym}
use Rattle.std.proofs.lemmas.List.{length_push}
use Rattle.ly_loop.proofs.ReductionLemmas.{rows_more}
use Rattle.ly_loop.proofs.reductions.all_reductions.Goals as goal

pub loop-state-preserved : goal.loop-state-preserved
loop-state-preserved g c =
    let rows = c.loop-state.rows.items in
    let items = c.in_ok-push.ensures.items in
    let was = c.loop-state.invariant in
    record {
      count = ap length items ∙ length_push rows c.in_ok-kept.kept ∙ ap (λ k. k + 1) was.count;
      each = λ state row at. rows_more c.args.machine.now rows c.loop-state.state c.in_ok-kept.kept was.each was.count
          c.in_ok-kept.ensures state row (ap (λ rs. slice_get rs state) (sym items) ∙ at);
      room = c.in_ok-row.ensures.room;
    }
