use Rattle.std.proofs.Common.{arith}
use Rattle.ly_base.specs.Keys.{PutsAt}
use Rattle.ly_base.proofs.KeyLemmas.{found_put}
use Rattle.ly_ere.proofs.NamesLemmas.{still_even, still_measured, still_numbered, still_ordered, still_weighed}
use Rattle.ly_ere.proofs.NamesLemmas.{with_name}
use Rattle.ly_ere.proofs.names.Names.with_weighed.Goals as goal

-- what a name finds
put : (c : goal.In_ok-push-4)
    → PutsAt (λ k. k.items) c.args.name.now c.len.result c.self.inside.numbers.entries c.insert.new.self.entries
put c = found_put (λ k. k.items) c.self.inside.numbers c.insert.new.self c.in_ok-from_slice.field-0.items
    c.args.name.now c.len.result c.in_ok-from_slice.ensures.items c.in_ok-insert.ensures.updates

pub invariant_of-self : goal.invariant_of-self
invariant_of-self c = (
  still_even (λ k. k.items) c.self.inside.names.items c.push.new.self.items c.self.inside.definitions.items
      c.push-2.new.self.items c.args.self c.in_ok-from_slice-2.field-0 c.args.definition c.self.view_is
      c.self.invariant.0 c.in_ok-push.ensures.items c.in_ok-push-2.ensures.items,
  still_ordered (λ k. k.items) c.self.inside.names.items c.push.new.self.items c.self.inside.definitions.items
      c.push-2.new.self.items c.args.self c.in_ok-from_slice-2.field-0 c.args.definition c.self.view_is
      c.self.invariant.0 c.in_ok-push.ensures.items c.in_ok-push-2.ensures.items c.self.invariant.1
      c.requires.sound,
  still_weighed (λ k. k.items) c.self.inside.names.items c.push.new.self.items c.self.inside.definitions.items
      c.push-2.new.self.items c.args.self c.in_ok-from_slice-2.field-0 c.args.definition c.self.view_is
      c.self.invariant.0 c.in_ok-push.ensures.items c.in_ok-push-2.ensures.items
      c.self.inside.weights.items c.push-3.new.self.items c.args.weight c.self.invariant.2 c.requires.weighed
      c.in_ok-push-3.ensures.items,
  still_measured (λ k. k.items) c.self.inside.names.items c.push.new.self.items c.self.inside.definitions.items
      c.push-2.new.self.items c.args.self c.in_ok-from_slice-2.field-0 c.args.definition c.self.view_is
      c.self.invariant.0 c.in_ok-push.ensures.items c.in_ok-push-2.ensures.items c.self.invariant.1
      c.requires.sound c.self.inside.lengths.items c.push-4.new.self.items c.in_ok-lengths.lengths c.self.invariant.3
      (c.in_ok-lengths.ensures c.requires.sound) c.in_ok-push-4.ensures.items,
  still_numbered (λ k. k.items) c.self.inside.names.items c.push.new.self.items c.self.inside.definitions.items
      c.push-2.new.self.items c.args.self c.in_ok-from_slice-2.field-0 c.args.definition c.self.view_is
      c.self.invariant.0 c.in_ok-push.ensures.items c.in_ok-push-2.ensures.items c.args.name.now
      c.in_ok-from_slice-2.ensures.items c.requires.new c.self.inside.numbers.entries c.insert.new.self.entries
      c.len.result (omega (arith, c.len.ensures)) (put c) c.self.invariant.4,
)

pub returns : goal.returns
returns c = with_name (λ k. k.items) c.self.inside.names.items c.push.new.self.items c.self.inside.definitions.items
    c.push-2.new.self.items c.args.self c.in_ok-from_slice-2.field-0 c.args.definition c.self.view_is
    c.self.invariant.0 c.in_ok-push.ensures.items c.in_ok-push-2.ensures.items
    c.args.name.now c.in_ok-from_slice-2.ensures.items
