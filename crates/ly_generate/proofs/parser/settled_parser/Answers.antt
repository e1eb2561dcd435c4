use Rattle.std.proofs.Common.{◌↔◌, IsTrue, subst, sym}
use Rattle.ly_resolve.specs.Actions.{IsConflictFree}
use Rattle.ly_generate.proofs.parser.settled_parser.Goals as goal

pub returns-clause-parser : goal.returns-clause-parser
returns-clause-parser c = record {
  is_machine = c.in_ok-machine.ensures.tables;
  steady = c.in_ok-machine.ensures.steady;
  counts = c.of.ensures;
  free = subst (λ b. IsTrue b ↔ IsConflictFree c.args.resolved.now.automaton.grammar) (sym c.conflict_free.ensures)
      c.requires.free;
  reported = c.in_ok-report.ensures;
}
