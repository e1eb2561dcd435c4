use Rattle.std.proofs.Common.{arith}
use Rattle.ly_base.specs.ByteSet.{has}
use Rattle.ly_base.proofs.WordLemmas.{word_has_set}
use Rattle.ly_base.proofs.byte_set.ByteSet.insert.Goals as goal

pub returns : goal.returns
unfolding has
returns c b = rw c.from.ensures (word_has_set c.args.self.now.words c.args.byte b (omega arith) (omega arith))
