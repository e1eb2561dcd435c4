use Rattle.std.proofs.Common.{arith}
use Rattle.std.proofs.lemmas.Bool.Decides.{nat_tests}
use Rattle.ly_base.proofs.byte_set.ByteSet.insert_range.Goals as goal

pub returns : goal.returns
returns c b = grind (arith, nat_tests, c.loop-byte.invariant b)
