use Rattle.std.proofs.Common.{arith, subst}
use Rattle.ly_repair.specs.Private.Stacks.{stack_of}
use Rattle.ly_repair.specs.Private.Text.{IsNext, after}
use Rattle.ly_repair.proofs.StackLemmas.{grown_twice}
use Rattle.ly_repair.proofs.TextLemmas.{all_hold, comes_all, comes_end, none_holds, one_fewer, one_more, read_on}
use Rattle.ly_repair.proofs.TextLemmas.{stops_at}
use Rattle.ly_repair.proofs.text.Text.comes_to.Goals as goal

pub returns-in-Accepts-clause-far : goal.returns-in-Accepts-clause-far
returns-in-Accepts-clause-far g c =
    let x = c.args.self.now in
    let cur = stack_of c.loop-index.runs.stacks c.loop-index.at.0 in
    comes_all x.machine (stack_of c.args.runs.now.stacks c.args.place.stack.0) (after x c.args.place.taken) cur
    (after x c.loop-index.index) c.args.place.taken c.loop-index.index c.args.limit c.loop-index.auto.index
    (omega (arith, c.loop-index-test.true))
    (λ n. all_hold x.machine n cur (after x c.loop-index.index) c.read.new.runs.stacks
    (subst (IsNext x.machine (after x c.loop-index.index) cur c.read.new.runs.stacks) c.in-Accepts.is
    c.in_ok-next.ensures.next))
    c.loop-index.invariant.back

pub returns-in-Stops-clause-far : goal.returns-in-Stops-clause-far
returns-in-Stops-clause-far g c =
    let x = c.args.self.now in
    let cur = stack_of c.loop-index.runs.stacks c.loop-index.at.0 in
    stops_at x.machine (stack_of c.args.runs.now.stacks c.args.place.stack.0) (after x c.args.place.taken) cur
    (after x c.loop-index.index) c.args.place.taken c.loop-index.index c.args.limit c.loop-index.auto.index
    (omega (arith, c.loop-index-test.true))
    (none_holds x.machine cur (after x c.loop-index.index) c.read.new.runs.stacks
    (subst (IsNext x.machine (after x c.loop-index.index) cur c.read.new.runs.stacks) c.in-Stops.is
    c.in_ok-next.ensures.next))
    c.loop-index.invariant.back c.loop-index.invariant.forth

pub loop-index-preserved : goal.loop-index-preserved
loop-index-preserved g c =
    let x = c.args.self.now in
    let start = c.args.place.taken in
    let index = c.loop-index.index in
    let stack = stack_of c.args.runs.now.stacks c.args.place.stack.0 in
    let cur = stack_of c.loop-index.runs.stacks c.loop-index.at.0 in
    let next = stack_of c.read.new.runs.stacks c.in-Reads.next.0 in
    let r = read_on x.machine x.terminals cur index c.in-Reads.next.0 c.read.new.runs.stacks
    (subst (IsNext x.machine (after x index) cur c.read.new.runs.stacks) c.in-Reads.is c.in_ok-next.ensures.next) in
    record {
      grown = grown_twice c.args.runs.now.stacks c.loop-index.runs.stacks c.read.new.runs.stacks
          c.loop-index.invariant.grown c.in_ok-next.ensures.grown;
      at = r.1;
      back = one_more x.machine stack (after x start) cur next (after x index) _ start index c.loop-index.auto.index
          r.0.back c.loop-index.invariant.back;
      forth = one_fewer x.machine stack (after x start) cur next (after x index) _ start index c.loop-index.auto.index
          r.0.forth c.loop-index.invariant.forth;
    }

pub returns-clause-far : goal.returns-clause-far
returns-clause-far g c =
    let x = c.args.self.now in
    comes_end x.machine (stack_of c.args.runs.now.stacks c.args.place.stack.0) (after x c.args.place.taken)
    (stack_of c.loop-index.runs.stacks c.loop-index.at.0) (after x c.loop-index.index) c.args.place.taken
    c.loop-index.index c.args.limit c.loop-index.auto.index c.loop-index.auto.index-end c.loop-index-test.false
    c.loop-index.invariant.back
