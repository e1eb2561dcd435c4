use Rattle.ly_resolve.proofs.RunLemmas.{unambiguous}
use Rattle.ly_resolve.proofs.laws.is_unambiguous.Goals as goal

pub returns : goal.returns
returns c = unambiguous
