use Rattle.std.proofs.Common.{subst, sym}
use Rattle.ly_parse.specs.Private.Stack.{IsParse}
use Rattle.ly_parse.proofs.StackLemmas.{begun}
use Rattle.ly_parse.proofs.running.Running.new.Goals as goal

pub invariant_of-result : goal.invariant_of-result
invariant_of-result g c = (
  subst (IsParse c.args.machine c.new.result) (sym c.new-2.ensures.items)
      (begun c.args.machine c.new.result c.states-states.ensures.all c.requires),
  record { passes = c.new-3.ensures c.args.machine; gotos = c.new-4.ensures c.args.machine },
)
