use Rattle.ly_loop.proofs.KnownLemmas.{pending_one}
use Rattle.ly_loop.proofs.listed.Listed.seek.Goals as goal

pub loop-turn-init : goal.loop-turn-init
loop-turn-init g c = record {
  known = c.in_ok-begin.ensures.known c.args.self.now c.args.tokens c.requires.known;
  agenda = pending_one c.args.self.now _ c.clear.new.self.items c.args.edge c.clear.ensures.items
      c.in_ok-begin.ensures.agenda c.requires.edge;
}
