use Rattle.std.proofs.Common.{length}
use Rattle.ly_base.proofs.GapLemmas.{at_none}
use Rattle.ly_lexread.proofs.NameLemmas.{defined_again, no_definition_here}
use Rattle.ly_lexread.proofs.definitions.Preamble.with_name.Goals as goal

pub returns-in_default-clause-these : goal.returns-in_default-clause-these
returns-in_default-clause-these c = rw c.fault.ensures.1 (
  λ h. h,
  λ _ q h. no_definition_here c.args.line.bytes.now
      (at_none c.definition_on.result _ _ c.in_default.not-Some c.definition_on.ensures)
      (length c.args.line.text.bytes.now) c.args.self.definitions q.definitions h.1,
)

pub returns-then-defines-clause-these : goal.returns-then-defines-clause-these
returns-then-defines-clause-these c = rw c.fault-then-defines.ensures.1 (
  λ h. h,
  λ _ q h. defined_again c.args.line.bytes.now c.in-Some.defined.name.now c.in-Some.defined.text.now
      (length c.args.line.text.bytes.now) c.args.self.definitions q.definitions c.in-Some.ensures c.if-defines.ensures
      h.1,
)
