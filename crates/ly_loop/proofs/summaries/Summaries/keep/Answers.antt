use Rattle.ly_loop.proofs.KnownLemmas.{put_is}
use Rattle.ly_loop.proofs.summaries.Summaries.keep.Goals as goal

pub returns-in_ok-insert : goal.returns-in_ok-insert
returns-in_ok-insert c m k known is = (
  put_is m k c.args.self.now.own c.insert.new.self c.args.edge.below.0 c.args.edge.top.0 c.args.found
      c.in_ok-insert.ensures.updates.0 is known.0,
  known.1,
)

pub returns-in_ok-insert-2 : goal.returns-in_ok-insert-2
returns-in_ok-insert-2 c m k known is = (
  known.0,
  put_is m k c.args.self.now.others c.insert-else-eq.new.self c.args.edge.below.0 c.args.edge.top.0 c.args.found
      c.in_ok-insert-2.ensures.updates.0 is known.1,
)
