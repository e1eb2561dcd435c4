use Rattle.std.proofs.Common.{subst}
use Rattle.std.specs.Prelude.{IfOk}
use Rattle.ly_resolve.specs.Values.{conflict_from}
use Rattle.ly_conflicts.specs.GroupReport.{IsShown}
use Rattle.ly_conflicts.proofs.conflicts.Reporter.shown.Goals as goal

pub returns-in-Some-Merged-clause-shown : goal.returns-in-Some-Merged-clause-shown
returns-in-Some-Merged-clause-shown c =
    let r = c.args.self.now.examples.now in
    let conflict = conflict_from r.automaton c.args.conflict.now in
    subst (λ group. IfOk c.merged.result (IsShown r group conflict)) c.deref-in-Some-Merged.ensures.value
    (c.merged.ensures.shown conflict)
