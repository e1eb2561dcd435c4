use Rattle.std.proofs.Common.{◌∙◌, ap, sym, subst, inl, inr}
use Rattle.ly_pack.specs.Combs.{comb_from}
use Rattle.ly_pack.specs.Placement.{IsPlaced}
use Rattle.ly_pack.specs.Private.Placing.{table_of}
use Rattle.ly_pack.specs.Rows.{comb_entry, IsComb}
use Rattle.ly_pack.proofs.CombLemmas.{comb_all, entries_all, placed_all}
use Rattle.ly_pack.proofs.DenseLemmas.{dense_entry-past, dense_entry-past_row}
use Rattle.ly_pack.proofs.placing.comb.Goals as goal

pub new-requires : goal.new-requires
new-requires g c =
    let all = c.in_ok-bases.ensures in
    subst (λ w. IsComb (comb_from w c.in_ok-bases.bases.items c.in_ok-bases.slots.items)) (sym c.width-2.ensures.count)
    (comb_all (table_of c.args.dense.now) all.order all.ordered c.in_ok-bases.bases.items c.in_ok-bases.slots.items
    all.laid)

pub returns-clause-placed : goal.returns-clause-placed
returns-clause-placed g c =
    let all = c.in_ok-bases.ensures in
    subst (IsPlaced (table_of c.args.dense.now)) (sym (c.new.ensures
    ∙ ap (λ w. comb_from w c.in_ok-bases.bases.items c.in_ok-bases.slots.items) c.width-2.ensures.count))
    (placed_all (table_of c.args.dense.now) all.order all.ordered c.in_ok-bases.bases.items c.in_ok-bases.slots.items
    all.laid)

pub returns-clause-entries : goal.returns-clause-entries
returns-clause-entries g c row column =
    let all = c.in_ok-bases.ensures in
    ap (λ b. comb_entry b row column) (c.new.ensures
    ∙ ap (λ w. comb_from w c.in_ok-bases.bases.items c.in_ok-bases.slots.items) c.width-2.ensures.count)
    ∙ entries_all (table_of c.args.dense.now) all.order all.ordered c.in_ok-bases.bases.items c.in_ok-bases.slots.items
    all.laid (λ r k out. elim out [
      | inl past ↦ dense_entry-past_row c.args.dense.now c.width-2.ensures.all r k past
      | inr past ↦ dense_entry-past c.args.dense.now c.width-2.ensures.all r k past
    ]) row column
