use Rattle.std.proofs.Common.{take}
use Rattle.ly_loop.specs.Private.Edges.{AreMoreDoubtful}
use Rattle.ly_loop.specs.Private.Known.{AreKnown}
use Rattle.ly_loop.specs.declared.tokens.Tokens.TheVariants.{All}
use Rattle.ly_loop.proofs.listed.Listed.push_doubtful.Given as goal

-- the edges to the targets so far are added
abbrev pub invariant-loop-top : goal.invariant-loop-top
invariant-loop-top g l = record {
  known : AreKnown l.self All l.known.summaries;
  doubtful : AreMoreDoubtful l.self l.below (take l.top-index l.targets) l.fn.doubtful.items l.doubtful.items;
}
