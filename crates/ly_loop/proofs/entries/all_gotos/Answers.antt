use Rattle.std.specs.Cow.{cow_slice_items}
use Rattle.std.proofs.lemmas.Result.{IfOk-weaker}
use Rattle.ly_loop.specs.Private.Entries.{AreAllGotos}
use Rattle.ly_loop.proofs.EntryLemmas.{gotos_are}
use Rattle.ly_loop.proofs.entries.all_gotos.Goals as goal

pub returns : goal.returns
returns g c =
    let m = c.args.machine.now in
    let so = c.gotos.ensures in
    IfOk-weaker c.cells.result _ (λ rows. AreAllGotos m (cow_slice_items rows))
    (λ rows are. gotos_are m _ _ _ (cow_slice_items rows) so.entries so.rows so.width are) c.cells.ensures
