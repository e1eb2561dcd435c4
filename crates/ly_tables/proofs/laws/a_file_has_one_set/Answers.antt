use Rattle.ly_tables.proofs.ExactLemmas.{set_is_one}
use Rattle.ly_tables.proofs.laws.a_file_has_one_set.Goals as goal

pub returns : goal.returns
returns c = set_is_one
