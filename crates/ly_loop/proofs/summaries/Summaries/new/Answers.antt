use Rattle.ly_loop.proofs.KnownLemmas.{none_is}
use Rattle.ly_loop.proofs.summaries.Summaries.new.Goals as goal

pub returns : goal.returns
returns c m k = (none_is m k c.new.result c.new.ensures.empty, none_is m k c.new-2.result c.new-2.ensures.empty)
