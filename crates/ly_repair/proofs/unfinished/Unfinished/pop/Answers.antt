use Rattle.std.proofs.Common.{◌∙◌, ◌++◌, ap, arith, sym}
use Rattle.ly_repair.specs.Private.Stacks.{stack_of}
use Rattle.ly_repair.specs.Values.{upward}
use Rattle.ly_repair.proofs.UnfinishedLemmas.{pop_above, pop_below}
use Rattle.ly_repair.proofs.unfinished.Unfinished.pop.Goals as goal

pub returns-then-count-len-clause-popped : goal.returns-then-count-len-clause-popped
returns-then-count-len-clause-popped c told =
    let above = c.args.self.now.above.items in
    let base = stack_of c.args.stacks.now c.args.self.now.lower.0 in
    ap (λ w. upward w ++ base) c.truncate.ensures.items
    ∙ pop_above above base _ c.args.count (omega (
      arith,
      c.if-count-len.true,
      c.len.ensures,
      c.len-then-count-len.ensures,
    ))

pub returns-in-Some-clause-popped : goal.returns-in-Some-clause-popped
returns-in-Some-clause-popped c told =
    let above = c.args.self.now.above.items in
    let base = stack_of c.args.stacks.now c.args.self.now.lower.0 in
    ap (λ w. upward w ++ stack_of c.args.stacks.now c.in-Some.lower.0) c.clear.ensures.items
    ∙ (c.in-Some.ensures.1
    ∙ sym (pop_below above base _ c.args.count (omega (arith, c.if-count-len.false, c.len.ensures, c.len-2.ensures))))

pub returns-in-None-clause-past : goal.returns-in-None-clause-past
returns-in-None-clause-past c told =
    let above = c.args.self.now.above.items in
    let base = stack_of c.args.stacks.now c.args.self.now.lower.0 in
    pop_below above base _ c.args.count (omega (arith, c.if-count-len.false, c.len.ensures, c.len-2.ensures))
    ∙ c.in-None.ensures
