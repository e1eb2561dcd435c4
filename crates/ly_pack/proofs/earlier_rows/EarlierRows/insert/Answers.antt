use Rattle.std.proofs.Common.{◌<◌, Contains, inl, inr, nat_eq, subst}
use lib.Pointwise.{pointwise}
use Rattle.ly_pack.specs.Private.Bits.{IsTakenAt}
use Rattle.ly_pack.proofs.EarlierLemmas.{columns_themselves, inserted, same_columns}
use Rattle.ly_pack.proofs.earlier_rows.EarlierRows.insert.Goals as goal

pub returns : goal.returns
returns c words refused these columns base there lower lt =
    elim (inserted (λ k q. pointwise nat_eq k.items q.items) (λ k. columns_themselves k.items)
    c.args.self.now.bases.entries c.args.columns c.args.base columns base
    (subst (λ es. Contains es (columns, base)) c.in_ok-insert.ensures.entries there)) [
      | inl was ↦ refused columns base was lower lt
      | inr new ↦ subst (λ cs. IsTakenAt words cs lower) (same_columns c.args.columns.items columns.items new.0)
          (these lower (subst (λ b. lower < b) new.1 lt))
    ]
