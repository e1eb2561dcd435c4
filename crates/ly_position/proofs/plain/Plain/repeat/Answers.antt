use Rattle.std.proofs.Common.{◌≡◌, ◌≤◌, ◌<◌, ◌-◌, arith, Some, None}
use Rattle.ly_position.specs.Private.Plain.{expression_at}
use Rattle.ly_position.specs.Private.Slim.{slim_plus, slim_times, slim_up_to}
use Rattle.ly_position.proofs.PlainLemmas.{then_copies}
use Rattle.ly_position.proofs.SlimLemmas.{times_between, times_least}
use Rattle.ly_position.proofs.plain.Plain.repeat.Goals as goal

pub returns-in_ok-rest-in-Some-2 : goal.returns-in_ok-rest-in-Some-2
returns-in_ok-rest-in-Some-2 c =
    let P = expression_at c.args.self.now c.args.part in
    let le : c.args.least ≤ c.in-Some-2.most =
    let one : c.in-Some.most ≡ c.in-Some-2.most = let a = c.in-Some.is in let b = c.in-Some-2.is in cc in
    let test = c.if-most-least.false in omega arith in
    rw c.in-Some-2.is
    (then_copies c.copies.result c.args.self.now c.at_most.new.self c.copies.new.self c.args.part
    c.in_ok-rest-in-Some-2.rest c.args.least (slim_up_to (c.in-Some-2.most - c.args.least) P)
    (slim_times c.args.least (Some c.in-Some-2.most) P)
    c.requires c.in_ok-rest-in-Some-2.ensures c.copies.ensures (times_between c.args.least c.in-Some-2.most P le))

pub returns-in_ok-last-in-None-2 : goal.returns-in_ok-last-in-None-2
returns-in_ok-last-in-None-2 c =
    let P = expression_at c.args.self.now c.args.part in
    let pos : 0 < c.args.least = omega (arith, c.if-least-eq0.false) in
    rw c.in-None.is (then_copies c.copies-in-None-2.result c.args.self.now c.plus.new.self c.copies-in-None-2.new.self
    c.args.part c.in_ok-last-in-None-2.last (c.args.least - 1) (slim_plus P) (slim_times c.args.least None P)
    c.requires c.in_ok-last-in-None-2.ensures c.copies-in-None-2.ensures (times_least c.args.least P pos))
