use Rattle.std.proofs.Common.{arith, sym, ◌∙◌}
use Rattle.ly_base.proofs.NameLemmas.{digits_begin, no_digits}
use Rattle.ly_base.proofs.names.leading_digits.Goals as goal

pub returns-then-length-eq0 : goal.returns-then-length-eq0
returns-then-length-eq0 c = λ ds rest. no_digits c.args.text.now ds rest
    (sym c.digits_length-length.ensures.value ∙ omega arith)

pub returns : goal.returns
returns c = digits_begin c.args.text.now c.split_at.result.0.now c.split_at.result.1.now
    c.digits_length-length.result c.digits_length-length.ensures.value (omega arith)
    c.digits_length-length.ensures.within c.split_at.ensures.front c.split_at.ensures.back
