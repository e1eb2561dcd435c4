use Rattle.std.proofs.Common.{arith}
use Rattle.std.proofs.lemmas.Bool.{eq-eqb, eqb-true}
use Rattle.ly_base.proofs.ByteSetLemmas.{bytes_none, none_from_empty}
use Rattle.ly_base.proofs.WordLemmas.{no_bit_from_none, none_from_no_bit}
use Rattle.ly_base.specs.ByteSet.{has}
use Rattle.ly_base.proofs.byte_set.ByteSet.is_empty.Goals as goal

pub returns : goal.returns
unfolding has
returns c = let set = c.args.self.now in (
  λ h. bytes_none (has set) (none_from_no_bit set.words (eqb-true _ _ h)),
  λ h. eq-eqb _ _ (no_bit_from_none set.words (omega arith) (omega arith) (omega arith) (omega arith)
      (none_from_empty set h)),
)
