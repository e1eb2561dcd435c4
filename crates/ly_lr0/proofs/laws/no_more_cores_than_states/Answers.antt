use Rattle.ly_lr0.proofs.LawLemmas.{no_more}
use Rattle.ly_lr0.proofs.laws.no_more_cores_than_states.Goals as goal

pub returns : goal.returns
returns c = no_more
