use Rattle.std.proofs.Common.{Option, sym, subst}
use Rattle.std.specs.Prelude.{IfOk}
use Rattle.ly_ere.specs.Expression.{Expression}
use Rattle.ly_position.specs.Private.Plain.{Makes, listed}
use Rattle.ly_position.specs.Private.Slim.{slim_tail, slim_under}
use Rattle.ly_position.proofs.PlanLemmas.{then_tail}
use Rattle.ly_position.proofs.plan.add_rule.Goals as goal

pub returns-in_ok-tail-in-Some : goal.returns-in_ok-tail-in-Some
returns-in_ok-tail-in-Some c =
    let N = listed c.args.plain.now c.args.names.now in
    let H = slim_under N c.args.rule.now.pattern.head in
    subst (λ (t : Option Expression). IfOk c.concat.result
    (λ p. Makes c.args.plain.now c.concat.new.self p (slim_tail N H t))) (sym c.in-Some.is)
    (then_tail c.concat.result c.args.plain.now c.add.new.plain c.add-in-Some.new.plain c.concat.new.self
    c.args.names.now c.in_ok-head.head c.in_ok-tail-in-Some.tail c.args.rule.now.pattern.head c.in-Some.tail
    c.requires c.in_ok-head.ensures c.in_ok-tail-in-Some.ensures c.concat.ensures)
