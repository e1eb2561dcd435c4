use Rattle.ly_loop.specs.Private.Edges.{AreDoubtful}
use Rattle.ly_loop.specs.Private.Known.{AreKnown}
use Rattle.ly_loop.specs.declared.tokens.Tokens.TheVariants.{All}
use Rattle.ly_loop.proofs.listed.Listed.doubtful_edges.Given as goal

-- the edges above the states so far
abbrev pub invariant-loop-number : goal.invariant-loop-number
invariant-loop-number g l = record {
  known : AreKnown l.self All l.known.summaries;
  doubtful : AreDoubtful l.self l.number l.doubtful.items;
}
