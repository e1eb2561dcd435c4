use Rattle.ly_resolve.proofs.ExactLemmas.{refused_exactly}
use Rattle.ly_resolve.proofs.laws.refuses_exactly.Goals as goal

pub returns : goal.returns
returns c = refused_exactly
