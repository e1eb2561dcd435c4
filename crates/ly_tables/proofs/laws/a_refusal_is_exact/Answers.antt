use Rattle.ly_tables.proofs.ExactLemmas.{refusal_exact}
use Rattle.ly_tables.proofs.laws.a_refusal_is_exact.Goals as goal

pub returns : goal.returns
returns c = refusal_exact
