use Rattle.std.specs.Cow.{cow_slice_items}
use Rattle.std.proofs.lemmas.Result.{IfOk-weaker}
use Rattle.ly_loop.specs.Private.Entries.{AreAllEntries}
use Rattle.ly_loop.proofs.EntryLemmas.{entries_are}
use Rattle.ly_loop.proofs.entries.all_entries.Goals as goal

pub returns : goal.returns
returns g c =
    let m = c.args.machine.now in
    let so = c.actions.ensures in
    IfOk-weaker c.cells.result _ (λ rows. AreAllEntries m (cow_slice_items rows))
    (λ rows are. entries_are m _ _ _ (cow_slice_items rows) so.entries so.rows so.width are) c.cells.ensures
