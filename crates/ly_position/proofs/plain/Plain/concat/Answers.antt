use Rattle.std.proofs.Common.{ap, sym, ◌∙◌}
use Rattle.ly_ere.specs.Expression.{concat}
use Rattle.ly_ere.specs.Arena.{part_of}
use Rattle.ly_position.specs.Private.Plain.{expression_at}
use Rattle.ly_position.specs.Private.Slim.{is_empty, slim_concat}
use Rattle.ly_position.proofs.PlainLemmas.{makes_push, first_left_out, second_left_out, both_there, not_empty}
use Rattle.ly_position.proofs.plain.Plain.concat.Goals as goal

pub returns-in-Empty : goal.returns-in-Empty
returns-in-Empty c = first_left_out c.args.self.now c.args.first c.args.second c.in-Some-Some.a c.in-Some-Some.b
    c.in-Some-Some.is-0 c.in-Some-Some.is-1 c.in-Empty.ensures.is c.requires.second

pub returns-in-Empty-node : goal.returns-in-Empty-node
returns-in-Empty-node c = second_left_out c.args.self.now c.args.first c.args.second c.in-Some-Some.a c.in-Some-Some.b
    c.in-Some-Some.is-0 c.in-Some-Some.is-1 c.in-Empty-node.ensures.is c.requires.first

pub returns : goal.returns
returns c =
    let e = concat (part_of c.args.self.now c.in-Some-Some.a) (part_of c.args.self.now c.in-Some-Some.b) in
    makes_push c.push.result c.args.self.now c.push.new.self e
    (slim_concat (expression_at c.args.self.now c.args.first) (expression_at c.args.self.now c.args.second))
    c.push.ensures.ok c.push.ensures.number
    (both_there c.args.self.now c.args.first c.args.second c.in-Some-Some.a c.in-Some-Some.b c.in-Some-Some.is-0
    c.in-Some-Some.is-1
    (sym (ap is_empty c.node.ensures.is) ∙ not_empty c.args.self.now c.node.result c.in_default-node.not-Empty)
    (sym (ap is_empty c.node-2.ensures.is) ∙ not_empty c.args.self.now c.node-2.result c.in_default-node-2.not-Empty))
