use Rattle.std.proofs.Common.{◌<◌, ◌∙◌, All, ap, subst, sym}
use Rattle.ly_pack.specs.Rows.{AreCellsOf, Dense, dense_entry}
use Rattle.ly_pack.specs.declared.cell.Cell.{Cell}
use Rattle.ly_pack.proofs.DenseLemmas.{read_are, read_within}
use Rattle.ly_pack.proofs.dense.Dense.row.Goals as goal

pub returns-clause-these : goal.returns-clause-these
returns-clause-these g c =
    let rows = c.deref-2.ensures.value ∙ ap (λ v. v.items) c.deref.ensures in
    subst (AreCellsOf (dense_entry c.args.self.now c.args.row.0)) (sym rows)
    (read_are c.self.inside.width c.self.inside.lists.items c.args.row.0 c.index.result.now c.args.self.now
    c.self.view_is c.self.invariant c.requires c.index.ensures)

pub returns-clause-within : goal.returns-clause-within
returns-clause-within g c =
    let rows = c.deref-2.ensures.value ∙ ap (λ v. v.items) c.deref.ensures in
    subst (λ (d : Dense g.row.E.Denot). All (λ (x : Cell g.row.E.Denot). x.column < d.width) c.deref-2.result.now)
    c.self.view_is
    (subst (All (λ (x : Cell g.row.E.Denot). x.column < c.self.inside.width)) (sym rows)
    (read_within c.self.inside.width c.self.inside.lists.items c.args.row.0 c.index.result.now c.args.self.now
    c.self.view_is c.self.invariant c.requires c.index.ensures))
