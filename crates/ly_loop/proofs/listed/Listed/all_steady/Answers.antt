use Rattle.std.proofs.Common.{subst, sym}
use Rattle.std.specs.Prelude.{Contains}
use Rattle.ly_pack.specs.Machine.{AreEntriesWithin, IsMachine, states_of}
use Rattle.ly_loop.specs.Private.Edges.{AreDoubtful, IsAbove, IsFirstOf}
use Rattle.ly_loop.proofs.EdgeLemmas.{edge_below, edge_known, endless_is, steady_is}
use Rattle.ly_loop.proofs.listed.Listed.all_steady.Goals as goal

pub first_passing-requires : goal.first_passing-requires
first_passing-requires g c e has =
    let m = c.args.self.now in
    let edge = c.in_ok-doubtful.ensures.sound e (subst (λ es. Contains es e) c.deref.ensures.value has) in (
      edge_below m e.below.0 e.top.0 (subst AreEntriesWithin c.self.view_is c.self.invariant.countable.within) edge,
      edge_known m e.below.0 e.top.0 (subst IsMachine c.self.view_is c.self.invariant.countable.machine) edge,
    )

pub returns-in-Some-clause-fault : goal.returns-in-Some-clause-fault
returns-in-Some-clause-fault g c =
    let m = c.args.self.now in
    let edges = c.deref.result.now in
    endless_is m edges c.in-Some.passing (subst AreEntriesWithin c.self.view_is c.self.invariant.countable.within)
    (subst (AreDoubtful m (states_of m)) (sym c.deref.ensures.value) c.in_ok-doubtful.ensures)
    (subst (IsFirstOf m (IsAbove edges m.terminals)) c.in-Some.is c.in_ok-passing.ensures)

pub returns-clause-ok : goal.returns-clause-ok
returns-clause-ok g c =
    let m = c.args.self.now in
    let edges = c.deref.result.now in
    steady_is m edges (subst AreEntriesWithin c.self.view_is c.self.invariant.countable.within)
    (subst (AreDoubtful m (states_of m)) (sym c.deref.ensures.value) c.in_ok-doubtful.ensures)
    (subst (IsFirstOf m (IsAbove edges m.terminals)) c.in-None.is c.in_ok-passing.ensures)
