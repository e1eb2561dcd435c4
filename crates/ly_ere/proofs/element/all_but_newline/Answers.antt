use Rattle.std.proofs.Common.{◌∙◌, ap, nat_eq}
use Rattle.std.specs.Prelude.{not}
use Rattle.ly_base.specs.ByteSet.{has}
use Rattle.ly_base.proofs.ByteSetLemmas.{bytes_agree, one_has}
use Rattle.ly_ere.proofs.element.all_but_newline.Goals as goal

pub returns : goal.returns
returns c = bytes_agree (has c.complement.result) (λ b. not (nat_eq b 10)) (λ b l. c.complement.ensures b l
    ∙ ap not (one_has c.of.result 10 c.of.ensures b l))
