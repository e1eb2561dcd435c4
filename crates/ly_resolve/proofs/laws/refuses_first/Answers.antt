use Rattle.ly_resolve.proofs.RefuseLemmas.{refused_first}
use Rattle.ly_resolve.proofs.laws.refuses_first.Goals as goal

pub returns : goal.returns
returns c = refused_first
