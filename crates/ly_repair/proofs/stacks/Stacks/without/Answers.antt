use Rattle.std.proofs.Common.{◌∙◌, sym}
use Rattle.ly_repair.specs.Private.Stacks.{stack_of, top_in}
use Rattle.ly_repair.proofs.StackLemmas.{pop_more}
use Rattle.ly_repair.proofs.stacks.Stacks.without.Goals as goal

pub loop-preserved : goal.loop-preserved
loop-preserved c =
    let now = stack_of c.args.self.now c.loop.at.0 in
    record {
      within = c.in-Some.ensures.within;
      left = sym (pop_more c.loop.counter (top_in now) (stack_of c.args.self.now c.args.at.0)
          (stack_of c.args.self.now c.in-Some.below.0) (sym c.loop.invariant.left ∙ c.in-Some.ensures.is));
    }
