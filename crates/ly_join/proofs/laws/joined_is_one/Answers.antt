use Rattle.ly_join.proofs.LawLemmas.{joined_one}
use Rattle.ly_join.proofs.laws.joined_is_one.Goals as goal

pub returns : goal.returns
returns c = joined_one
