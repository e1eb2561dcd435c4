use Rattle.ly_emit.proofs.ExpectedLemmas.{expected_follow}
use Rattle.ly_emit.proofs.laws.expected_follow.Goals as goal

pub returns : goal.returns
returns c = expected_follow
