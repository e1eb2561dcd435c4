use Rattle.std.proofs.Common.{arith, inr}
use Rattle.ly_diagnostics.specs.Lines.{none}
use Rattle.ly_diagnostics.proofs.IndentedLemmas.{passed_on}
use Rattle.ly_diagnostics.proofs.lex_units.Units.behind_mark.Goals as goal

pub loop-init : goal.loop-init
loop-init c = record {
  lines = inr (rw (c.of-units.ensures.passed, c.of-units.ensures.rest) (none c.args.text.now));
  mark = λ is. absurd (let off = c.of-units.ensures.in_rules in cc);
}

pub loop-preserved : goal.loop-preserved
loop-preserved c = passed_on c.args.text.now c.loop.units c.pass.new.self c.front-unit.result c.in_ok-line.line.now
    c.in_ok-line._behind.now (omega arith) c.loop.invariant c.in_ok-line.ensures c.front-unit.ensures.first
    c.front-unit.ensures.last c.front-unit.ensures.kind c.pass.ensures.rest c.pass.ensures.passed
    c.pass.ensures.in_rules
