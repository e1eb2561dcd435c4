use Rattle.ly_feed.proofs.SomeVerdictLemmas.{has_some_verdict}
use Rattle.ly_feed.proofs.laws.a_text_has_a_verdict.Goals as goal

pub returns : goal.returns
returns c = has_some_verdict
