use Rattle.std.proofs.Common.{◌≡◌, ◌∙◌, ◌≤◌, Some, ap, length, refl, slice_get, subst, sym}
use Rattle.std.proofs.lemmas.Bool.{ltb-true}
use Rattle.std.proofs.lemmas.Option.{slice_get_read}
use Rattle.ly_pack.specs.Rows.{AreRising, entry_in}
use Rattle.ly_pack.proofs.DenseLemmas.{list_entry, list_none, list_rising}
use Rattle.ly_pack.proofs.dense.DenseRows.entry.Goals as goal

pub entry_of-requires : goal.entry_of-requires
entry_of-requires g c =
    let found = c.in-Some.ensures.lookup in
    let vecs = c.deref.result.now in
    let at : slice_get c.self.inside.lists.items c.args.row.0 ≡ Some c.in-Some.cells.now
    = ap (λ ls. slice_get ls c.args.row.0) (sym c.deref.ensures.value) ∙ slice_get_read vecs (length vecs) c.args.row.0
    c.in-Some.cells.now refl (ltb-true c.args.row.0 (length vecs) (sym found.0)) found.1 in
    let cells = c.deref-in-Some-2.ensures.value ∙ ap (λ v. v.items) c.deref-in-Some.ensures in
    subst AreRising (sym cells) (list_rising c.self.inside.width c.self.inside.lists.items
    c.args.self.now c.self.view_is c.self.invariant c.args.row.0 c.in-Some.cells.now at)

pub returns-in-Some : goal.returns-in-Some
returns-in-Some g c =
    let found = c.in-Some.ensures.lookup in
    let vecs = c.deref.result.now in
    let at : slice_get c.self.inside.lists.items c.args.row.0 ≡ Some c.in-Some.cells.now
    = ap (λ ls. slice_get ls c.args.row.0) (sym c.deref.ensures.value) ∙ slice_get_read vecs (length vecs) c.args.row.0
    c.in-Some.cells.now refl (ltb-true c.args.row.0 (length vecs) (sym found.0)) found.1 in
    let cells = c.deref-in-Some-2.ensures.value ∙ ap (λ v. v.items) c.deref-in-Some.ensures in
    c.entry_of.ensures ∙ ap (λ cs. entry_in cs c.args.column) cells
    ∙ list_entry c.self.inside.width c.self.inside.lists.items c.args.self.now c.self.view_is c.self.invariant
    c.args.row.0 c.in-Some.cells.now at c.args.column

pub returns-in-None : goal.returns-in-None
returns-in-None g c = list_none c.self.inside.width c.self.inside.lists.items c.args.self.now c.self.view_is
    c.self.invariant c.args.row.0
    (subst (λ ls. length ls ≤ c.args.row.0) c.deref.ensures.value c.in-None.ensures.lookup.3) c.args.column
