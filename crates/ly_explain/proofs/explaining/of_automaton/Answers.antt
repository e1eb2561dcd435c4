use Rattle.std.proofs.Common.{refl, subst, sym}
use Rattle.ly_base.specs.Limits.{Sizes}
use Rattle.ly_emit.specs.Tables.{AreShapesWithin, IsMachineOf}
use Rattle.ly_join.specs.Joined.{Spec}
use Rattle.ly_lr0.specs.Automaton.{Lr0Automaton}
use Rattle.ly_generate.specs.Accepted.{IsUnfitFor}
use Rattle.ly_generate.proofs.GenFaultLemmas.{when_same}
use Rattle.ly_explain.proofs.explaining.of_automaton.Goals as goal

pub parser_tables-requires-clause-shapes : goal.parser_tables-requires-clause-shapes
parser_tables-requires-clause-shapes c = subst AreShapesWithin (sym c.in_ok-resolved.ensures.spec) c.requires.shapes

pub returns-in_err-tables-clause-unfit : goal.returns-in_err-tables-clause-unfit
returns-in_err-tables-clause-unfit c =
    let fault = c.in_err-tables.field-0.0 in
    when_same c.from_residual-in_err-tables.result fault
    (λ f. (limits : Sizes) → IsUnfitFor limits c.args.read.spec.now f) c.from_residual-in_err-tables.ensures.1
    (subst (λ (s : Spec). (limits : Sizes) → IsUnfitFor limits s fault) c.in_ok-resolved.ensures.spec
    c.in_err-tables.ensures.unfit)

pub returns-clause-steady : goal.returns-clause-steady
returns-clause-steady c = record {
  automaton = c.args.lr0.now;
  is_automaton = c.requires.lawful;
  same = refl;
  machine = c.in_ok-tables.tables;
  is_machine = subst (λ (N : Lr0Automaton). IsMachineOf c.args.read.spec.now N c.in_ok-tables.tables)
      c.in_ok-resolved.ensures.automaton
      (subst (λ (s : Spec). IsMachineOf s c.in_ok-resolved.resolved.automaton c.in_ok-tables.tables)
      c.in_ok-resolved.ensures.spec c.in_ok-tables.ensures.tables);
  steady = c.in_ok-tables.ensures.steady;
}
