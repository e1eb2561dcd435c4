use Rattle.std.proofs.Common.{◌<◌, ◌∙◌, ◌↔◌, IsTrue, subst}
use Rattle.ly_tables.specs.Private.RawValues.{comb_raw}
use Rattle.ly_tables.specs.RawSections.{AreRowsWithin}
use Rattle.ly_tables.specs.Ranges.{width_of}
use Rattle.ly_tables.proofs.row_ranges.gotos_within.Goals as goal

pub returns : goal.returns
returns c = subst (λ n. IsTrue c.are_rows_within.result ↔ AreRowsWithin (width_of c.args.version)
    c.args.raw.now.nonterminals
    (λ column s. s < n) (comb_raw c.args.raw.now.gotos)) (c.len.ensures
    ∙ c.args.raw.now.defaults.ok.0) c.are_rows_within.ensures
