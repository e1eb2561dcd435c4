use Rattle.ly_loop.specs.Private.Summary.{IsSummary}
use Rattle.ly_loop.proofs.KnownLemmas.{pending_two, summary_is}
use Rattle.ly_loop.proofs.listed.Listed.work.Goals as goal

pub returns-in_ok-begin-clause-known : goal.returns-in_ok-begin-clause-known
returns-in_ok-begin-clause-known g c = c.in_ok-begin.ensures.known c.args.self.now c.args.tokens c.requires.known

pub returns-in_ok-begin-clause-agenda : goal.returns-in_ok-begin-clause-agenda
returns-in_ok-begin-clause-agenda g c =
    pending_two c.args.self.now c.args.known.now.agenda.items c.pop.new.self.items c.push.new.self.items
    c.begin.new.known.agenda.items c.in-Some.pending c.in-Some-wanted_for.passed c.in-Some-wanted_for.wanted
    c.requires.agenda c.in-Some.ensures.items c.in_ok-push.ensures.items c.in_ok-begin.ensures.agenda
    c.in-Some-wanted_for.ensures

pub returns-in_ok-keep-clause-known : goal.returns-in_ok-keep-clause-known
returns-in_ok-keep-clause-known g c =
    let m = c.args.self.now in
    let edge = c.in-Some.pending.edge in
    c.in_ok-keep.ensures m c.args.tokens c.requires.known
    (summary_is m (IsSummary m c.args.tokens edge.below.0 edge.top.0) c.runs_of-found.result c.summary.result
    c.runs_of-found.ensures c.summary.ensures)
