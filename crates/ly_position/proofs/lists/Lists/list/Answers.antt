use Rattle.std.proofs.Common.{◌-◌, take, drop, arith, ap, ◌∙◌}
use Rattle.ly_position.specs.Lists.{start_after}
use Rattle.ly_position.proofs.ListsLemmas.{number_within, list_at}
use Rattle.ly_position.proofs.lists.Lists.list.Goals as goal

pub start_of-start-requires : goal.start_of-start-requires
start_of-start-requires c =
    omega (
      arith,
      number_within c.self.inside.ends.items c.self.inside.members.items c.args.self.now c.args.number
          c.self.view_is c.requires,
    )

pub index-requires : goal.index-requires
index-requires c =
    omega (
      arith,
      number_within c.self.inside.ends.items c.self.inside.members.items c.args.self.now c.args.number
          c.self.view_is c.requires,
    )

pub part-requires-clause-rises : goal.part-requires-clause-rises
part-requires-clause-rises c =
    (list_at c.self.inside.ends.items c.self.inside.members.items c.args.self.now c.args.number c.start_of-start.result
    c.index.result.now
    c.self.invariant c.self.view_is c.requires (c.start_of-start.ensures
    ∙ ap (λ es. start_after 0 es c.args.number) c.deref.ensures.value) c.index.ensures).0

pub part-requires-clause-within : goal.part-requires-clause-within
part-requires-clause-within c =
    let least
    = (list_at c.self.inside.ends.items c.self.inside.members.items c.args.self.now c.args.number
    c.start_of-start.result c.index.result.now
    c.self.invariant c.self.view_is c.requires (c.start_of-start.ensures
    ∙ ap (λ es. start_after 0 es c.args.number) c.deref.ensures.value) c.index.ensures).1 in
    rw c.deref-2.ensures.value least

pub returns : goal.returns
returns c =
    c.part.ensures
    ∙ (ap (λ ms. take (c.index.result.now - c.start_of-start.result) (drop c.start_of-start.result ms))
    c.deref-2.ensures.value
    ∙ (list_at c.self.inside.ends.items c.self.inside.members.items c.args.self.now c.args.number
    c.start_of-start.result c.index.result.now
    c.self.invariant c.self.view_is c.requires (c.start_of-start.ensures
    ∙ ap (λ es. start_after 0 es c.args.number) c.deref.ensures.value) c.index.ensures).2)
