use Rattle.std.proofs.Common.{◌∙◌, ◌↔◌, ℕ, IsTrue, Vec, Global, subst, sym}
use Rattle.std.proofs.lemmas.List.{length-map}
use Rattle.ly_tables.specs.Private.RawValues.{comb_raw, raw_from}
use Rattle.ly_tables.specs.RawSections.{AreRowsWithin, IsActionWithin}
use Rattle.ly_tables.specs.Ranges.{width_of}
use Rattle.ly_tables.proofs.row_ranges.actions_within.Goals as goal

pub returns : goal.returns
returns c =
    let w = width_of c.args.version in
    subst (λ n. IsTrue c.are_rows_within.result ↔ AreRowsWithin w n (IsActionWithin w
    (raw_from c.args.raw.now)) (comb_raw c.args.raw.now.actions)) (c.len.ensures
    ∙ c.args.raw.now.terminals.ok.0
    ∙ sym (length-map c.args.raw.now.terminals.items (λ (name : Vec ℕ Global). name.items))) c.are_rows_within.ensures
