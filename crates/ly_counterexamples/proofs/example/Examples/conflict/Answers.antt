use Rattle.std.proofs.Common.{◌≡◌, subst}
use Rattle.std.specs.Prelude.{Contains, IfSome, Some, slice_get}
use Rattle.ly_resolve.specs.Resolved.{Resolved}
use Rattle.ly_resolve.specs.Values.{conflict_from, IsInside}
use Rattle.ly_counterexamples.proofs.ConflictLemmas.{found_among, found_at, found_inside}
use Rattle.ly_counterexamples.proofs.example.Examples.conflict.Goals as goal

pub returns-clause-these : goal.returns-clause-these
returns-clause-these c =
    subst (λ (v : Resolved). IfSome c.get.result
    (λ x. slice_get v.conflicts c.args.index ≡ Some (conflict_from v.automaton x)))
    c.self.view_is (found_at c.self.inside.resolved.now c.conflicts.result.now c.args.index c.get.result
    c.conflicts.ensures.these c.get.ensures)

pub returns-clause-inside : goal.returns-clause-inside
returns-clause-inside c =
    subst (λ (v : Resolved). IfSome c.get.result (IsInside v.automaton))
    c.self.view_is (found_inside c.self.inside.resolved.now c.conflicts.result.now c.args.index c.get.result
    c.conflicts.ensures.inside c.get.ensures)

pub returns-clause-among : goal.returns-clause-among
returns-clause-among c =
    subst (λ (v : Resolved). IfSome c.get.result (λ x. Contains v.conflicts (conflict_from v.automaton x)))
    c.self.view_is (found_among c.self.inside.resolved.now c.conflicts.result.now c.args.index c.get.result
    c.conflicts.ensures.these c.get.ensures)
