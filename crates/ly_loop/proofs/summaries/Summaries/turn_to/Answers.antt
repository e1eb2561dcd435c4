use Rattle.ly_loop.proofs.KnownLemmas.{none_is}
use Rattle.ly_loop.proofs.summaries.Summaries.turn_to.Goals as goal

pub returns : goal.returns
returns c m k known = (none_is m k c.clear.new.self c.clear.ensures.empty, known.1)
