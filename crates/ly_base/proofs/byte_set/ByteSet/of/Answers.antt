use Rattle.std.proofs.Common.{◌∙◌, nat_eq, arith}
use Rattle.std.proofs.lemmas.Bool.Decides.{nat_tests}
use Rattle.ly_base.specs.ByteSet.{has}
use Rattle.ly_base.proofs.ByteSetLemmas.{bytes_agree, bytes_one}
use Rattle.ly_base.proofs.byte_set.ByteSet.of.Goals as goal

pub returns : goal.returns
returns c = bytes_agree (has c.insert.new.self) (nat_eq c.args.byte)
    (λ b l. grind (arith, nat_tests, c.insert.ensures b, c.new-set.ensures b)) ∙ bytes_one c.args.byte (omega arith)
