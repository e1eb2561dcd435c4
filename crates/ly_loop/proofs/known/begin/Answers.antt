use Rattle.ly_loop.proofs.known.begin.Goals as goal

pub returns-clause-known : goal.returns-clause-known
returns-clause-known c m k known = c.in_ok-keep.ensures m k known tt
