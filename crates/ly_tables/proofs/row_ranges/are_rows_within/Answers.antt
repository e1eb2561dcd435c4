use Rattle.std.proofs.Common.{◌≤◌, ◌∙◌, All, refl, subst}
use Rattle.ly_tables.specs.Private.RawValues.{comb_raw}
use Rattle.ly_tables.proofs.RowLemmas.{rows_within, slots_within}
use Rattle.ly_tables.specs.Ranges.{width_of}
use Rattle.ly_tables.proofs.row_ranges.are_rows_within.Goals as goal

pub returns-then-are_at_most : goal.returns-then-are_at_most
returns-then-are_at_most g c =
    let w = width_of c.args.version in
    let rows = comb_raw c.args.rows.now in
    let legal = g.L.Legal.IsLegal c.args.legal.now in
    let bases = subst (λ n. All (λ base. base ≤ n) rows.bases) (c.len.ensures ∙ c.args.rows.now.entries.ok.0)
    (subst (λ v. All (λ base. base ≤ c.len.result) v) c.deref.ensures.value (c.if-are_at_most.ensures.0 refl)) in (
      λ e. rows_within w c.args.columns legal rows bases (c.are_slots_within.ensures.0 e),
      λ r. c.are_slots_within.ensures.1 (slots_within w c.args.columns legal rows c.requires r),
    )
