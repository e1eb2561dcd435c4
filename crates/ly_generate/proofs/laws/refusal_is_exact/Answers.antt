use Rattle.ly_generate.proofs.RefusalLaws.{refusal_exact}
use Rattle.ly_generate.proofs.laws.refusal_is_exact.Goals as goal

pub returns : goal.returns
returns c = refusal_exact
