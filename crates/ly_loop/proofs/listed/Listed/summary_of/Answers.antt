use Rattle.std.proofs.Common.{subst}
use Rattle.ly_loop.specs.Private.Listed.{IsListed}
use Rattle.ly_loop.specs.Private.Summary.{IsSummary}
use Rattle.ly_loop.proofs.ByRuleLemmas.{kept_is}
use Rattle.ly_loop.proofs.KnownLemmas.{summary_is}
use Rattle.ly_loop.proofs.listed.Listed.summary_of.Goals as goal

pub returns-in_ok-seek-in-Wanted-clause-summary : goal.returns-in_ok-seek-in-Wanted-clause-summary
returns-in_ok-seek-in-Wanted-clause-summary g c =
    let m = c.args.self.now in
    let listed = subst (λ n. IsListed n c.self.inside.entries.now c.self.inside.gotos.now c.self.inside.reductions.now)
    c.self.view_is c.self.invariant in
    summary_is m (IsSummary m c.args.tokens c.args.edge.below.0 c.args.edge.top.0) c.look_up.result c.summary.result
    (kept_is m c.args.tokens c.self.inside.reductions.now c.seek.new.known.summaries c.args.edge c.look_up.result
    listed.reductions_are c.in_ok-seek-in-Wanted.ensures c.requires.edge c.look_up.ensures) c.summary.ensures
