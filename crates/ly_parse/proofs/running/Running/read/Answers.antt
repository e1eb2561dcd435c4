use Rattle.std.proofs.Common.{◌∙◌, ap, subst, sym}
use Rattle.ly_parse.specs.Private.Stack.{stack_from, IsParse}
use Rattle.ly_parse.proofs.StackLemmas.{on_top, shifted, shifted_stack}
use Rattle.ly_tree.specs.Term.{leaf}
use Rattle.ly_parse.proofs.running.Running.read.Goals as goal

pub invariant_of-self-2 : goal.invariant_of-self-2
invariant_of-self-2 g c = (
  subst (IsParse c.self.inside.machine c.leaf_as_block.new.self)
      (sym (on_top _ _ _ _ c.make_room.ensures.items c.push_reserved.ensures.items))
      (shifted c.self.inside.machine c.self.inside.forest c.leaf_as_block.new.self c.self.inside.stack.items
      c.args.self.now c.self.inside.count c.self.inside.over c.args.token.now.terminal.0 c.args.token.now.text
      (record { state = c.args.state; term = c.in-Some.term }) c.self.view_is c.self.invariant.0
      c.in-Some.ensures.keeps c.requires c.in-Some.ensures.stands c.in-Some.ensures.pays),
  c.self.invariant.1,
)

pub returns-clause-stack : goal.returns-clause-stack
returns-clause-stack g c =
    ap (stack_from c.leaf_as_block.new.self) (on_top _ _ _ _ c.make_room.ensures.items c.push_reserved.ensures.items)
    ∙ shifted_stack c.self.inside.machine c.self.inside.forest c.leaf_as_block.new.self c.self.inside.stack.items
    c.args.self.now c.self.inside.count c.self.inside.over (record { state = c.args.state; term = c.in-Some.term })
    (leaf c.args.token.now.terminal.0 c.args.token.now.text) c.self.view_is c.self.invariant.0
    c.in-Some.ensures.keeps c.in-Some.ensures.stands
