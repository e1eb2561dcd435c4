use Rattle.ly_resolve.proofs.RefuseLemmas.{read_prefix}
use Rattle.ly_resolve.proofs.laws.reads_prefixes.Goals as goal

pub returns : goal.returns
returns c = read_prefix
