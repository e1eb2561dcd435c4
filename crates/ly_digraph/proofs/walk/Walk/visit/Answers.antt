use Rattle.ly_digraph.proofs.UnionLemmas.{continues_none, continues_on}
use Rattle.ly_digraph.proofs.StepLemmas.{roots_on}
use Rattle.ly_digraph.proofs.walk.Walk.visit.Goals as goal

pub returns-then-is_seen-clause-on : goal.returns-then-is_seen-clause-on
returns-then-is_seen-clause-on c = continues_none c.requires.at

pub loop-init : goal.loop-init
loop-init c =
    continues_none
    (roots_on c.args.sets.now c.args.self.now c.enter.new.self c.args.root c.requires.at c.requires.inside
    c.requires.over (c.is_seen.ensures.0 c.if-is_seen.false)
    c.in_ok-enter.ensures).at

pub loop-preserved : goal.loop-preserved
loop-preserved c = continues_on c.loop.invariant c.in_ok-step.ensures.on

pub returns-clause-on : goal.returns-clause-on
returns-clause-on c =
    continues_on (roots_on c.args.sets.now c.args.self.now c.enter.new.self c.args.root c.requires.at c.requires.inside
    c.requires.over (c.is_seen.ensures.0 c.if-is_seen.false)
    c.in_ok-enter.ensures)
    (continues_on c.loop.invariant c.in_ok-step.ensures.on)
