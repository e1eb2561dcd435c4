use Rattle.std.proofs.Common.{◌∙◌, ◌-◌, ◌++◌, ap, arith, drop, length, take}
use Rattle.std.proofs.lemmas.List.{length-take-le}
use Rattle.ly_parse.specs.Private.Copied.{states_in, upward}
use Rattle.ly_parse.proofs.CopiedLemmas.{pop_above, pop_below, take_within}
use Rattle.ly_parse.proofs.copied.Copied.pop.Goals as goal

pub returns-then-count-len-clause-popped : goal.returns-then-count-len-clause-popped
returns-then-count-len-clause-popped c told =
    let above = c.self.inside.above.items in
    let base = states_in (take c.self.inside.kept c.self.inside.stack.now) in
    ap (λ w. upward w ++ base) c.truncate.ensures.items
    ∙ (pop_above above base _ c.args.count (omega (
      arith,
      c.if-count-len.true,
      c.len.ensures,
      c.len-then-count-len.ensures,
    ))
    ∙ ap (λ x. drop c.args.count x.now) c.self.view_is)

pub returns-clause-popped : goal.returns-clause-popped
returns-clause-popped c told =
    let above = c.self.inside.above.items in
    let stack = c.self.inside.stack.now in
    let kept = c.self.inside.kept in
    let long = length-take-le kept stack c.self.invariant in
    ap (λ w. upward w ++ states_in (take c.in-Some.kept stack)) c.clear.ensures.items
    ∙ (ap states_in (take_within stack c.in-Some.kept kept (omega (arith, c.in-Some.ensures)))
    ∙ (pop_below above (take kept stack) c.in-Some.kept (c.args.count - length above) c.args.count
    (omega (arith, c.if-count-len.false, c.len.ensures)) (omega (
      arith,
      long,
      c.in-Some.ensures,
      c.if-count-len.false,
      c.len.ensures,
      c.len-2.ensures,
    ))
    ∙ ap (λ x. drop c.args.count x.now) c.self.view_is))
