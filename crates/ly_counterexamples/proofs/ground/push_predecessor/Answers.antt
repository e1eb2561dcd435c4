use Rattle.std.proofs.Common.{◌≡◌, ◌∙◌, arith, length}
use Rattle.ly_lr0.specs.Automaton.{is_goto, is_shift}
use Rattle.ly_counterexamples.proofs.GroundLemmas.{predecessor_done, target_within}
use Rattle.ly_counterexamples.proofs.ground.push_predecessor.Goals as goal

pub push_to_each-requires : goal.push_to_each-requires
push_to_each-requires c = λ t has.
    let lt = target_within c.args.lr0.now c.requires.lawful c.args.predecessor c.requires.state is_shift
    c.shifts.result.now
    c.shifts.ensures t has in
    let long = c.requires.before.count in
    omega (arith, lt, long)

pub push_to_each-requires-2 : goal.push_to_each-requires-2
push_to_each-requires-2 c = λ t has.
    let lt = target_within c.args.lr0.now c.requires.lawful c.args.predecessor c.requires.state is_goto
    c.gotos.result.now
    c.gotos.ensures t has in
    let long : length c.push_to_each.new.predecessors ≡ length c.args.lr0.now.states
    = c.in_ok-push_to_each.ensures.count ∙ c.requires.before.count in
    omega (arith, lt, long)

pub returns : goal.returns
returns c = predecessor_done c.args.lr0.now c.requires.lawful c.args.predecessor c.requires.state c.shifts.result.now
    c.gotos.result.now c.shifts.ensures c.gotos.ensures c.args.predecessors.now c.push_to_each.new.predecessors
    c.push_to_each-2.new.predecessors c.requires.before c.in_ok-push_to_each.ensures c.in_ok-push_to_each-2.ensures
