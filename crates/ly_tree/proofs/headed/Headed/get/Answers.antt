use Rattle.std.proofs.Common.{◌∙◌, ◌-◌, ap, sym, arith, drop, take}
use Rattle.std.specs.Prelude.{Some}
use Rattle.ly_tree.specs.Private.Headed.{start_after}
use Rattle.ly_tree.proofs.HeadedLemmas.{list_at, number_within, place_within}
use Rattle.ly_tree.proofs.headed.Headed.get.Goals as goal

pub start_of-start-requires : goal.start_of-start-requires
start_of-start-requires g c = rw c.deref.ensures.value (number_within c.self.inside.headings.items
    c.self.inside.members.items c.args.self.now c.args.number c.self.view_is c.requires)

pub index-requires : goal.index-requires
index-requires g c = omega (
  arith,
  number_within c.self.inside.headings.items c.self.inside.members.items
      c.args.self.now c.args.number c.self.view_is c.requires,
)

pub part-requires-clause-rises : goal.part-requires-clause-rises
part-requires-clause-rises g c =
    (place_within c.self.inside.headings.items c.self.inside.members.items c.args.self.now c.args.number
    c.start_of-start.result c.index.result.now c.self.invariant c.self.view_is c.requires
    (c.start_of-start.ensures ∙ ap (λ hs. start_after 0 hs c.args.number) c.deref.ensures.value) c.index.ensures).0

pub part-requires-clause-within : goal.part-requires-clause-within
part-requires-clause-within g c =
    let least = (place_within c.self.inside.headings.items c.self.inside.members.items c.args.self.now c.args.number
    c.start_of-start.result c.index.result.now c.self.invariant c.self.view_is c.requires
    (c.start_of-start.ensures ∙ ap (λ hs. start_after 0 hs c.args.number) c.deref.ensures.value) c.index.ensures).1 in
    rw c.deref-2.ensures.value least

pub returns : goal.returns
returns g c =
    list_at c.self.inside.headings.items c.self.inside.members.items c.args.self.now c.args.number
    c.start_of-start.result c.index.result.now c.self.invariant c.self.view_is c.requires
    (c.start_of-start.ensures ∙ ap (λ hs. start_after 0 hs c.args.number) c.deref.ensures.value) c.index.ensures
    ∙ ap (λ ms. Some (c.index.result.now.head, ms))
    (ap (λ ms. take (c.index.result.now.end - c.start_of-start.result) (drop c.start_of-start.result ms))
    (sym c.deref-2.ensures.value) ∙ sym c.part.ensures)
