use Rattle.std.proofs.Common.{◌∙◌, ◌<◌, ◌≤◌, List, Option, ap, length, slice_get, subst, sym}
use Rattle.std.specs.Prelude.{if◌then◌else◌, nat_eq}
use Rattle.std.specs.List.Sorted.{IsPartitionPoint}
use Rattle.std.proofs.lemmas.Bool.{true≢false}
use Rattle.ly_pack.specs.Private.Cells.{AreCellsStill}
use Rattle.ly_pack.specs.Rows.{entry_in}
use Rattle.ly_pack.specs.declared.cell.Cell.{Cell}
use Rattle.ly_pack.proofs.CellLemmas.{IsCleared, cleared_removed, cleared_same, put_entries, put_still}
use Rattle.ly_pack.proofs.dense.put.Goals as goal
use Rattle.ly_pack.proofs.dense.put.Goals.{then-is_at, else-is_at}

pub returns-in_ok-insert : goal.returns-in_ok-insert
returns-in_ok-insert g c =
    let old = c.args.cells.now.items in
    let column = c.args.column in
    let place = c.place_of-place.result in
    let slice = c.deref-2.ensures.value in
    let small : place ≤ length old = subst (λ cs. place ≤ length cs) slice c.place_of-place.ensures.within in
    let parted = subst (λ (cs : List (Cell g.row.E.Denot)). IsPartitionPoint (λ x. x.column < column) (λ x. column
    ≤ x.column) cs place) slice c.place_of-place.ensures.parted in
    let so : IsCleared column place old c.if-is_at.cells.items
    = elim c.if-is_at.branch [
      | then-is_at w ↦
          let found = c.is_at.ensures.0 w.if-is_at.true in
          let at = ap (λ cs. slice_get cs place) (sym c.deref-3.ensures.value) ∙ found.1 in
          subst (IsCleared column place old) (sym (ap (λ v. v.items) w.cells-is ∙ w.remove.ensures.items))
          (cleared_removed old column place c.requires small parted found.0 at found.2)
      | else-is_at w ↦ subst (IsCleared column place old) (sym (ap (λ v. v.items) w.cells-is))
          (cleared_same old column place c.requires small parted (λ x at same.
          true≢false (sym (c.is_at.ensures.1 (x, ap (λ cs. slice_get cs place) c.deref-3.ensures.value ∙ at, same))
          ∙ w.if-is_at.false)))
    ] in
    let x : Cell g.row.E.Denot = record { column = column; entry = c.in-Some.entry } in
    let items = c.in_ok-insert.ensures.items in
    record {
      kept = subst (AreCellsStill column old) (sym items) (put_still old c.if-is_at.cells.items x place so);
      entries = λ t. ap (λ cs. entry_in cs t) items ∙ put_entries old c.if-is_at.cells.items x place so t
          ∙ ap (λ (o : Option g.row.E.Denot). if nat_eq t column then o else entry_in old t) (sym c.in-Some.is);
    }

pub returns-in_default : goal.returns-in_default
returns-in_default g c =
    let old = c.args.cells.now.items in
    let column = c.args.column in
    let place = c.place_of-place.result in
    let slice = c.deref-2.ensures.value in
    let small : place ≤ length old = subst (λ cs. place ≤ length cs) slice c.place_of-place.ensures.within in
    let parted = subst (λ (cs : List (Cell g.row.E.Denot)). IsPartitionPoint (λ x. x.column < column) (λ x. column
    ≤ x.column) cs place) slice c.place_of-place.ensures.parted in
    let so : IsCleared column place old c.if-is_at.cells.items
    = elim c.if-is_at.branch [
      | then-is_at w ↦
          let found = c.is_at.ensures.0 w.if-is_at.true in
          let at = ap (λ cs. slice_get cs place) (sym c.deref-3.ensures.value) ∙ found.1 in
          subst (IsCleared column place old) (sym (ap (λ v. v.items) w.cells-is ∙ w.remove.ensures.items))
          (cleared_removed old column place c.requires small parted found.0 at found.2)
      | else-is_at w ↦ subst (IsCleared column place old) (sym (ap (λ v. v.items) w.cells-is))
          (cleared_same old column place c.requires small parted (λ x at same.
          true≢false (sym (c.is_at.ensures.1 (x, ap (λ cs. slice_get cs place) c.deref-3.ensures.value ∙ at, same))
          ∙ w.if-is_at.false)))
    ] in
    record {
      kept = so.still;
      entries = λ t. so.entries t
          ∙ ap (λ (o : Option g.row.E.Denot). if nat_eq t column then o else entry_in old t) (sym c.in_default.is);
    }
