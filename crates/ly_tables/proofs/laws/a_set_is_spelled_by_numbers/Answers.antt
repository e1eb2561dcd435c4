use Rattle.ly_tables.proofs.RawOfLemmas.{spelling_same}
use Rattle.ly_tables.proofs.laws.a_set_is_spelled_by_numbers.Goals as goal

pub returns : goal.returns
returns c = spelling_same
