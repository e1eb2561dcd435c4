use Rattle.std.proofs.Common.{◌∙◌, ap}
use Rattle.ly_parse.proofs.PayingLemmas.{children_paid}
use Rattle.ly_parse.proofs.StackLemmas.{kept, stack_kept}
use Rattle.ly_parse.proofs.TermLemmas.{kept_either, node_made, passed, slice_known, slice_places}
use Rattle.ly_parse.proofs.running.Running.make.Goals as goal

pub returns-in-Pass-clause-made : goal.returns-in-Pass-clause-made
returns-in-Pass-clause-made g c =
    passed c.self.inside.machine c.self.inside.forest c.self.inside.stack.items c.args.self.now
    c.self.inside.count c.self.inside.over c.args.below c.in-Pass.place c.args.number.0 c.index.result.now
    c.args.tree.now c.self.view_is c.self.invariant.0 c.in-Pass.is c.requires.shape c.index.ensures

pub node-requires-clause-known : goal.node-requires-clause-known
node-requires-clause-known g c =
    slice_known c.self.inside.machine c.self.inside.forest c.self.inside.stack.items c.deref.result.now
    c.args.below c.self.invariant.0 c.deref.ensures.value

pub node-requires-clause-places : goal.node-requires-clause-places
node-requires-clause-places g c =
    slice_places c.self.inside.machine c.self.inside.forest c.self.inside.stack.items c.args.self.now
    c.self.inside.count c.self.inside.over c.args.below c.in-Build.name c.in-Build.places c.args.tree.now
    c.deref.result.now c.deref-in-Build.result.now c.self.view_is c.in-Build.is c.requires.shape
    c.deref.ensures.value c.deref-in-Build.ensures.value

pub invariant_of-self : goal.invariant_of-self
invariant_of-self g c = (
  kept c.self.inside.machine c.self.inside.forest c.node.new.self c.self.inside.stack.items c.self.invariant.0
      (kept_either c.self.inside.forest c.node.new.self c.node.result c.node.ensures.keeps c.node.ensures.err),
  c.self.invariant.1,
)

pub returns-in-Build-clause-made : goal.returns-in-Build-clause-made
returns-in-Build-clause-made g c =
    node_made c.self.inside.machine c.self.inside.forest c.node.new.self c.self.inside.stack.items
    c.args.self.now c.self.inside.count c.self.inside.over c.args.below c.args.number.0 c.in-Build.name
    c.in-Build.places c.args.tree.now c.deref.result.now c.deref-in-Build.result.now c.node.result c.self.view_is
    c.in-Build.is c.deref.ensures.value c.deref-in-Build.ensures.value c.node.ensures.stands

pub returns-in-Build-clause-stack : goal.returns-in-Build-clause-stack
returns-in-Build-clause-stack g c =
    stack_kept c.self.inside.forest c.node.new.self c.self.inside.stack.items
    (kept_either c.self.inside.forest c.node.new.self c.node.result c.node.ensures.keeps c.node.ensures.err)
    c.self.invariant.0.terms
    ∙ ap (λ p. p.stack) c.self.view_is

pub returns-in-Build-clause-pays : goal.returns-in-Build-clause-pays
returns-in-Build-clause-pays g c =
    children_paid c.self.inside.forest c.node.new.self c.args.self.now.forest c.in-Build.name c.in-Build.places
    c.args.tree.now c.deref-in-Build.result.now c.node.result (ap (λ p. p.forest) c.self.view_is) c.in-Build.is
    c.deref-in-Build.ensures.value c.node.ensures.pays
