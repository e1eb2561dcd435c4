use Rattle.ly_pack.specs.Steady.{ReducesTo}
use Rattle.ly_loop.specs.Private.Run.{AreStates, stack_of}
use Rattle.ly_loop.proofs.run.ends_within.Given as goal

-- so many reductions have led from the stack to where it is
abbrev pub invariant-loop-made : goal.invariant-loop-made
invariant-loop-made g l = record {
  led : ReducesTo l.machine l.token.0 (stack_of l.fn.stack.items) l._made (stack_of l.stack.items);
  states : AreStates l.machine l.stack.items;
}
