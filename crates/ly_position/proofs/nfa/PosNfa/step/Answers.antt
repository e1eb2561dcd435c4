use Rattle.std.proofs.Common.{arith, subst}
use Rattle.std.specs.Prelude.{Contains, ◌↔◌}
use Rattle.ly_position.specs.Nfa.{Nfa, Stepped}
use Rattle.ly_position.proofs.StepLemmas.{stepped}
use Rattle.ly_position.proofs.nfa.PosNfa.step.Goals as goal

pub returns-clause-members : goal.returns-clause-members
returns-clause-members c q =
    let inside = c.self.inside in
    let same = stepped inside.slots.items inside.forks.items inside.starts c.self.invariant.within
    c.args.from.now c.args.byte (omega (arith, c.ranges.byte.fits)) q in
    let found = rw (c.deref.ensures.value, c.deref-2.ensures.value) at (c.step.ensures.members q) in
    subst (λ (nfa : Nfa). Contains c.step.new.into.positions.members q
    ↔ Stepped nfa c.args.from.now c.args.byte q) c.self.view_is
    (λ k. same.0 (found.0 k), λ k. found.1 (same.1 k))
