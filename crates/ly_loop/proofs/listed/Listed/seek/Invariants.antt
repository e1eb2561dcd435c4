use Rattle.ly_loop.specs.Private.Known.{AreKnown, ArePending}
use Rattle.ly_loop.proofs.listed.Listed.seek.Given as goal

-- what is known is true, and the edges that are sought are there
abbrev pub invariant-loop-turn : goal.invariant-loop-turn
invariant-loop-turn g l = record {
  known : AreKnown l.self l.tokens l.known.summaries;
  agenda : ArePending l.self l.known.agenda.items;
}
