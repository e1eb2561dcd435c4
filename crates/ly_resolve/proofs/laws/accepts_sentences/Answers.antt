use Rattle.ly_resolve.proofs.AcceptLemmas.{accepts_all}
use Rattle.ly_resolve.proofs.laws.accepts_sentences.Goals as goal

pub returns : goal.returns
returns c = accepts_all
