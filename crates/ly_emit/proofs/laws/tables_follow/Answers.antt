use Rattle.ly_emit.proofs.FollowLemmas.{tables_follow}
use Rattle.ly_emit.proofs.laws.tables_follow.Goals as goal

pub returns : goal.returns
returns c = tables_follow
