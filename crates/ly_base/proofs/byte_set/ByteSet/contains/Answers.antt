use Rattle.std.proofs.lemmas.Nat.Bits.{shr_and_one}
use Rattle.ly_base.specs.ByteSet.{has}
use Rattle.ly_base.proofs.byte_set.ByteSet.contains.Goals as goal

pub returns : goal.returns
unfolding has
returns c = rw (c.from.ensures, shr_and_one)
