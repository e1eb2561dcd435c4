use Rattle.std.proofs.Common.{take}
use Rattle.ly_loop.specs.Private.Edges.{IsFirstOf}
use Rattle.ly_loop.specs.Private.Known.{AreKnown}
use Rattle.ly_loop.specs.declared.tokens.Tokens.TheVariants.{One}
use Rattle.ly_loop.proofs.EdgeLemmas.{AreSoFar}
use Rattle.ly_loop.proofs.listed.Listed.first_on.Given as goal

-- the first run on lower terminals, and above the edges so far
abbrev pub invariant-loop-edge : goal.invariant-loop-edge
invariant-loop-edge g l = record {
  known : AreKnown l.self (One l.token) l.known.summaries;
  first : IsFirstOf l.self (AreSoFar l.edges (take l.edge-index l.edges) l.token.0) l.first;
}
