use Rattle.std.proofs.Common.{nat_eq, subst, sym}
use lib.Pointwise.{pointwise}
use Rattle.ly_pack.specs.Private.Bits.{IsTakenAt}
use Rattle.ly_pack.proofs.EarlierLemmas.{looked_up, same_columns}
use Rattle.ly_pack.proofs.earlier_rows.EarlierRows.base.Goals as goal

pub returns-in-Some : goal.returns-in-Some
returns-in-Some c words refused lower lt =
    let columns = c.args.columns.now in
    let there = looked_up (λ k. pointwise nat_eq columns k.items) c.args.self.now.bases.entries c.in-Some.base.now
    (sym c.in-Some.ensures.value) in
    subst (λ cs. IsTakenAt words cs lower) (sym (same_columns columns there.0.items there.2))
    (refused there.0 c.in-Some.base.now there.1 lower lt)
