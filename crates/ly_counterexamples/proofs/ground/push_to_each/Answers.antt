use Rattle.std.proofs.Common.{◌≡◌, arith, subst, length}
use Rattle.std.proofs.lemmas.List.{take_all}
use Rattle.std.proofs.lemmas.List.Elements.{Contains-get_or}
use Rattle.ly_lr0.specs.declared.transition.Transition as code
use Rattle.ly_relate.proofs.WalkLemmas.{no_symbol}
use Rattle.ly_counterexamples.specs.Private.Lists.{ArePredecessorsAdded}
use Rattle.ly_counterexamples.proofs.GroundLemmas.{predecessors_more, predecessors_none}
use Rattle.ly_counterexamples.proofs.ground.push_to_each.Goals as goal

-- what stands where no transition does
abbrev none : code.Transition
none = record { symbol = no_symbol; target = record { 0 = 0 } }

pub loop-transition-init : goal.loop-transition-init
loop-transition-init c = predecessors_none c.args.predecessors.now c.args.predecessor c.args.transitions.now

pub push-requires : goal.push-requires
push-requires c =
    let lt = c.requires _ (Contains-get_or c.args.transitions.now c.loop-transition.transition-index none
    c.loop-transition-test.true) in
    let long : length c.loop-transition.predecessors ≡ length c.args.predecessors.now
    = c.loop-transition.invariant.count in
    omega (arith, lt, long)

pub loop-transition-preserved : goal.loop-transition-preserved
loop-transition-preserved c =
    let lt = c.requires _ (Contains-get_or c.args.transitions.now c.loop-transition.transition-index none
    c.loop-transition-test.true) in
    let long : length c.loop-transition.predecessors ≡ length c.args.predecessors.now
    = c.loop-transition.invariant.count in
    predecessors_more c.args.predecessors.now c.loop-transition.predecessors c.push.new.self c.args.predecessor
    c.args.transitions.now
    c.loop-transition.transition-index none c.loop-transition-test.true (omega (arith, lt, long)) c.in_ok-push.ensures
    c.loop-transition.invariant

pub returns : goal.returns
returns c = subst (ArePredecessorsAdded c.args.predecessors.now c.loop-transition.predecessors c.args.predecessor)
    (take_all c.loop-transition.transition-index c.args.transitions.now c.loop-transition-test.false)
    c.loop-transition.invariant
