use Rattle.std.proofs.Common.{◌≡◌, ◌∙◌, ap, arith, length, refl, subst, sym}
use Rattle.std.specs.Prelude.{IsSome}
use Rattle.std.proofs.lemmas.List.{length-map}
use Rattle.ly_base.proofs.ListLemmas.{some_at}
use Rattle.ly_resolve.specs.Values.{conflict_from}
use Rattle.ly_conflicts.proofs.GroupsLemmas.{at_index}
use Rattle.ly_conflicts.proofs.conflicts.Reporter.conflict.Goals as goal

pub unwrap-requires : goal.unwrap-requires
unwrap-requires c =
    let conflicts = c.conflicts.result.now in
    let many : length conflicts ≡ length c.args.self.now.examples.now.conflicts
    = sym (length-map conflicts (conflict_from c.resolved.result.now.automaton)) ∙ ap length c.conflicts.ensures.these
    ∙ ap (λ v. length v.conflicts) c.resolved.ensures in
    let lt = c.requires in
    subst IsSome (sym (c.get.ensures ∙ (some_at conflicts c.args.index (omega (arith, many, lt))).1)) refl

pub returns : goal.returns
returns c = at_index c.args.self.now.examples.now c.resolved.result.now.automaton c.conflicts.result.now c.args.index
    c.unwrap.result (ap (λ v. v.automaton) c.resolved.ensures)
    (c.conflicts.ensures.these ∙ ap (λ v. v.conflicts) c.resolved.ensures) c.conflicts.ensures.inside
    (sym c.get.ensures ∙ c.unwrap.ensures)
