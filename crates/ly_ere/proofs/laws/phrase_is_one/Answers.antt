use Rattle.ly_ere.proofs.GroupLemmas.{phrase_one}
use Rattle.ly_ere.proofs.laws.phrase_is_one.Goals as goal

pub returns : goal.returns
returns c = phrase_one
