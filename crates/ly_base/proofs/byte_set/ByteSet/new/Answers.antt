use Rattle.ly_base.specs.ByteSet.{has}
use Rattle.ly_base.proofs.WordLemmas.{none_in_zero_words}
use Rattle.ly_base.proofs.byte_set.ByteSet.new.Goals as goal

pub returns : goal.returns
unfolding has
returns c = none_in_zero_words
