use Rattle.std.proofs.Common.{arith}
use Rattle.ly_base.specs.ByteSet.{has}
use Rattle.ly_base.proofs.WordLemmas.{word_has_not}
use Rattle.ly_base.proofs.byte_set.ByteSet.complement.Goals as goal

pub returns : goal.returns
unfolding has
returns c b l = word_has_not c.args.self.now.words b l (omega arith) (omega arith) (omega arith) (omega arith)
