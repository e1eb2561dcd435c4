use Rattle.std.proofs.Common.{◌≡◌, ◌<◌, [], length, get_or, subst, ap, ◌∙◌, arith}
use Rattle.std.proofs.lemmas.List.{get_or_default}
use Rattle.ly_ere.specs.Arena.{expression_of, part_of}
use Rattle.ly_ere.specs.declared.node.Node.TheVariants.{Set}
use Rattle.ly_ere.proofs.ExpressionLemmas.{expression_at}
use Rattle.ly_position.proofs.plain.Plain.node.Goals as goal

pub returns-clause-is : goal.returns-clause-is
returns-clause-is c =
    let less : c.args.number < length c.nodes.result.now = let count = c.nodes.ensures.counted
    in let same = ap length c.self.view_is in let r = c.requires in omega arith in
    let same = c.nodes.ensures.spelled ∙ c.self.view_is in
    let n = get_or c.nodes.result.now c.args.number (Set (record { words = [] })) in
    subst (λ es. expression_of es n ≡ part_of es c.args.number) same
    (expression_at c.nodes.result.now c.args.number n c.nodes.ensures.ordered less
    (get_or_default c.nodes.result.now c.args.number (Set (record { words = [] })) n less))
