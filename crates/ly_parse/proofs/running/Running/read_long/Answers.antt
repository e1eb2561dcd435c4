use Rattle.std.proofs.Common.{◌∙◌, ◌∷◌, ℕ, List, ap, arith, subst, sym}
use Rattle.std.proofs.lemmas.List.{take_all}
use Rattle.ly_parse.specs.Feeding.{Level}
use Rattle.ly_parse.specs.Private.Stack.{stack_from, IsParse}
use Rattle.ly_parse.proofs.StackLemmas.{kept, on_top, shifted, shifted_stack}
use Rattle.ly_tree.specs.Term.{leaf}
use Rattle.ly_parse.proofs.running.Running.read_long.Goals as goal

pub invariant_of-self-in_err-reserve : goal.invariant_of-self-in_err-reserve
invariant_of-self-in_err-reserve g c = (
  subst (IsParse c.self.inside.machine c.leaf_without_block.new.self) (sym c.in_err-reserve.ensures.items)
      (kept c.self.inside.machine c.self.inside.forest c.leaf_without_block.new.self c.self.inside.stack.items
      c.self.invariant.0 c.in_ok-term.ensures.keeps),
  c.self.invariant.1,
)

pub invariant_of-self-2 : goal.invariant_of-self-2
invariant_of-self-2 g c = (
  subst (IsParse c.self.inside.machine c.leaf_without_block.new.self)
      (sym (on_top _ _ _ _ c.in_ok-reserve.ensures.items c.push_reserved.ensures.items))
      (shifted c.self.inside.machine c.self.inside.forest c.leaf_without_block.new.self c.self.inside.stack.items
      c.args.self.now c.self.inside.count c.self.inside.over c.args.terminal.0 c.new-text.result
      (record { state = c.args.state; term = c.in_ok-term.term }) c.self.view_is c.self.invariant.0
      c.in_ok-term.ensures.keeps c.requires c.in_ok-term.ensures.stands c.in_ok-term.ensures.pays),
  c.self.invariant.1,
)

pub returns-clause-stack : goal.returns-clause-stack
returns-clause-stack g c =
    let text = c.new-text.ensures ∙ take_all _ c.args.text.now (omega arith) in
    ap (stack_from c.leaf_without_block.new.self)
    (on_top _ _ _ _ c.in_ok-reserve.ensures.items c.push_reserved.ensures.items)
    ∙ (shifted_stack c.self.inside.machine c.self.inside.forest c.leaf_without_block.new.self c.self.inside.stack.items
    c.args.self.now c.self.inside.count c.self.inside.over (record { state = c.args.state; term = c.in_ok-term.term })
    (leaf c.args.terminal.0 c.new-text.result) c.self.view_is c.self.invariant.0
    c.in_ok-term.ensures.keeps c.in_ok-term.ensures.stands
    ∙ ap (λ (bytes : List ℕ). let top : Level = record {
      state = c.args.state.0;
      term = leaf c.args.terminal.0 bytes;
    } in top ∷ c.args.self.now.stack) text)
