use Rattle.std.proofs.Common.{◌∙◌, ◌<◌, ℕ, Vec, Global, length, subst, sym}
use Rattle.std.proofs.lemmas.List.{length-map}
use Rattle.ly_pack.specs.Rows.{IsComb}
use Rattle.ly_tables.specs.Private.Meaning.{action_meant, comb_meant, state_meant}
use Rattle.ly_tables.specs.Private.RawValues.{comb_raw, raw_from}
use Rattle.ly_tables.specs.RawSections.{IsActionWithin}
use Rattle.ly_tables.proofs.SetLemmas.{action_comb, goto_comb, scan_comb}
use Rattle.ly_tables.proofs.SlotLemmas.{comb_within}
use Rattle.ly_tables.specs.Ranges.{width_of}
use Rattle.ly_tables.proofs.conversion.parts_meant.Goals as goal

pub comb-requires-clause-comb : goal.comb-requires-clause-comb
comb-requires-clause-comb c =
    let r = raw_from c.args.raw in
    comb_within (width_of c.args.version) state_meant r.scan_rows c.requires.fits.scan_rows.row_count r.class_count
    (λ column s. s < length r.accepted) (scan_comb c.args.version r c.requires.fits c.requires.within)

pub comb-requires-2-clause-comb : goal.comb-requires-2-clause-comb
comb-requires-2-clause-comb c =
    let w = width_of c.args.version in
    let r = raw_from c.args.raw in
    subst (λ n. IsComb (comb_meant w (action_meant w) n (comb_raw c.args.raw.actions)))
    (sym (c.len-terminals.ensures ∙ c.args.raw.terminals.ok.0
    ∙ sym (length-map c.args.raw.terminals.items (λ (name : Vec ℕ Global). name.items))))
    (comb_within w (action_meant w) r.actions c.requires.fits.actions.row_count (length r.terminals) (IsActionWithin w
    r)
    (action_comb c.args.version r c.requires.fits c.requires.within))

pub comb-requires-3-clause-comb : goal.comb-requires-3-clause-comb
comb-requires-3-clause-comb c =
    let r = raw_from c.args.raw in
    comb_within (width_of c.args.version) state_meant r.gotos c.requires.fits.gotos.row_count r.nonterminals
    (λ column s. s < length r.defaults) (goto_comb c.args.version r c.requires.fits c.requires.within)
