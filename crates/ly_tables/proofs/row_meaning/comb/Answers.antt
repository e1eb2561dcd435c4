use Rattle.std.proofs.Common.{◌∙◌, ℕ, List, Option, ap, sym, subst, map}
use Rattle.std.specs.List.{zip}
use Rattle.ly_pack.specs.Rows.{IsComb, Used}
use Rattle.ly_tables.specs.Private.Meaning.{slot_meant}
use Rattle.ly_tables.specs.Ranges.{width_of}
use Rattle.ly_tables.proofs.row_meaning.comb.Goals as goal

pub new-requires : goal.new-requires
new-requires g c =
    let meant = λ (p : ℕ × ℕ). slot_meant (width_of c.args.version) (g.E.CombEntry.meant c.args.version) p.0 p.1 in
    let same = c.in_ok-slots.ensures ∙ ap (λ v. map meant (zip v c.deref-2.result.now)) c.deref.ensures.value
    ∙ ap (λ v. map meant (zip c.args.raw.entries.items v)) c.deref-2.ensures.value in
    subst (λ (s : List (Option (Used g.row.E.Denot))). IsComb (record {
      width = c.args.columns;
      bases = c.args.raw.bases.items;
      slots = s;
    })) (sym same) c.requires.comb
