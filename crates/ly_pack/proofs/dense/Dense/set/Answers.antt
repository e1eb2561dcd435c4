use Rattle.std.proofs.Common.{◌≡◌, ◌∙◌, ◌<◌, ◌&&◌, ap, rules, subst, sym}
use Rattle.std.specs.Prelude.{if◌then◌else◌, nat_eq}
use Rattle.ly_pack.specs.Rows.{Dense, dense_entry}
use Rattle.ly_pack.proofs.DenseLemmas.{dense_entry-put, is_dense-written, read_rising, read_within}
use Rattle.ly_pack.proofs.dense.Dense.set.Goals as goal

pub put_own-requires : goal.put_own-requires
put_own-requires g c = read_rising c.self.inside.width c.self.inside.lists.items c.args.row.0 c.index_mut.result.now
    c.args.self.now c.self.view_is c.self.invariant c.requires.row c.index_mut.ensures.value

pub invariant_of-self : goal.invariant_of-self
invariant_of-self g c =
    let width = c.self.inside.width in
    let lists = c.self.inside.lists.items in
    let old = c.index_mut.result.now in
    let value = c.index_mut.ensures.value in
    let is : c.in-Ok.column ≡ c.args.column = search rules in
    let lt = subst (λ (d : Dense g.row.E.Denot). c.args.column < d.width) (sym c.self.view_is) c.requires.column in
    is_dense-written width lists c.args.row.0 old c.args.self.now c.self.view_is c.self.invariant c.requires.row value
    c.put_own.new.row
    (c.put_own.ensures.kept.rising (read_rising width lists c.args.row.0 old c.args.self.now c.self.view_is
    c.self.invariant c.requires.row value))
    (c.put_own.ensures.kept.within width (subst (λ k. k < width) (sym is) lt)
    (read_within width lists c.args.row.0 old c.args.self.now c.self.view_is c.self.invariant c.requires.row value))

pub invariant_of-self-2 : goal.invariant_of-self-2
invariant_of-self-2 g c =
    let width = c.self.inside.width in
    let lists = c.self.inside.lists.items in
    let old = c.index_mut.result.now in
    let value = c.index_mut.ensures.value in
    let is : c.in-Ok.column ≡ c.args.column = search rules in
    let lt = subst (λ (d : Dense g.row.E.Denot). c.args.column < d.width) (sym c.self.view_is) c.requires.column in
    is_dense-written width lists c.args.row.0 old c.args.self.now c.self.view_is c.self.invariant c.requires.row value
    c.put_own.new.row
    (c.put_own.ensures.kept.rising (read_rising width lists c.args.row.0 old c.args.self.now c.self.view_is
    c.self.invariant c.requires.row value))
    (c.put_own.ensures.kept.within width (subst (λ k. k < width) (sym is) lt)
    (read_within width lists c.args.row.0 old c.args.self.now c.self.view_is c.self.invariant c.requires.row value))

pub returns-clause-entries : goal.returns-clause-entries
returns-clause-entries g c r k =
    let is : c.in-Ok.column ≡ c.args.column = search rules in
    dense_entry-put c.self.inside.width c.self.inside.lists.items c.args.row.0 c.index_mut.result.now c.args.self.now
    c.self.view_is c.self.invariant c.requires.row c.index_mut.ensures.value c.put_own.new.row c.in-Ok.column
    c.args.entry c.in_ok-put_own.ensures.entries r k
    ∙ ap (λ n. if nat_eq r c.args.row.0 && nat_eq k n then c.args.entry else dense_entry c.args.self.now r k) is
