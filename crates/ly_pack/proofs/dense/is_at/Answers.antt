use Rattle.std.proofs.Common.{◌∙◌, ap, length, refl, sym}
use Rattle.std.proofs.lemmas.Bool.{eq-eqb, eqb-true, false≢true, ltb-true}
use Rattle.std.proofs.lemmas.Option.{none-some, same_Some, slice_get_past, slice_get_read}
use Rattle.ly_pack.proofs.dense.is_at.Goals as goal

pub returns-in-Some : goal.returns-in-Some
returns-in-Some g c =
    let at = c.in-Some.ensures.lookup in
    let x = c.in-Some.cell.now in
    let there = slice_get_read c.args.cells.now (length c.args.cells.now) c.args.place x refl
    (ltb-true c.args.place (length c.args.cells.now) (sym at.0)) at.1 in (
      λ e. (x, there, eqb-true x.column c.args.column e),
      λ found. eq-eqb x.column c.args.column (ap (λ y. y.column) (same_Some x found.0 (sym there ∙ found.1)) ∙ found.2),
    )

pub returns-in-None : goal.returns-in-None
returns-in-None g c =
    let at = c.in-None.ensures.lookup in (
      λ e. absurd (false≢true e),
      λ found. absurd (none-some found.0 (sym (slice_get_past c.args.cells.now c.args.place at.3) ∙ found.1)),
    )
