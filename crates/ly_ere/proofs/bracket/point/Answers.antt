use Rattle.std.proofs.Common.{◌∙◌, sym, arith}
use Rattle.std.proofs.lemmas.Result.{IfOk-weaker}
use Rattle.ly_ere.proofs.PointLemmas.{bare_point, escaped_point, named_point}
use Rattle.ly_ere.proofs.bracket.point.Goals as goal

pub returns-then-byte-eq92-clause-point : goal.returns-then-byte-eq92-clause-point
returns-then-byte-eq92-clause-point c = IfOk-weaker c.leading_escape.result _ _
    (λ found. escaped_point c.args.text.now found.0 found.1
    (omega (arith, c.in-Some.ensures.item.3.0)) (omega (arith, c.in-Some.ensures.item.3.1 0)))
    c.leading_escape.ensures.escape

pub returns-then-begins-clause-point : goal.returns-then-begins-clause-point
returns-then-begins-clause-point c = named_point c.args.text.now c.named_byte.result (sym c.begins.ensures
    ∙ c.if-begins.true) c.named_byte.ensures.length c.named_byte.ensures.named

pub returns-clause-point : goal.returns-clause-point
returns-clause-point c = bare_point c.args.text.now c.in-Some.field-0.now (omega (arith, c.in-Some.ensures.item.3.0))
    (omega (arith, c.in-Some.ensures.item.3.1 0)) c.if-byte-eq10.false c.if-byte-eq92.false (sym c.begins-2.ensures
    ∙ c.if-begins-2.false) (sym c.begins.ensures ∙ c.if-begins.false) (sym c.begins-else-begins-2.ensures
    ∙ c.if-begins-3.false)
