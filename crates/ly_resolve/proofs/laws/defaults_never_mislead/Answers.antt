use Rattle.ly_resolve.proofs.DefaultLemmas.{never_mislead}
use Rattle.ly_resolve.proofs.laws.defaults_never_mislead.Goals as goal

pub returns : goal.returns
returns c = never_mislead
