use Rattle.std.proofs.Common.{◌≤◌, All, arith, subst, sym}
use Rattle.ly_diagnostics.proofs.IndentedLemmas.{added, passed_on}
use Rattle.ly_diagnostics.proofs.indented.indented_lines.Goals as goal

pub loop-preserved : goal.loop-preserved
loop-preserved c =
    let is = c.loop.invariant in
    let here = c.in-Some-first_line.ensures in
    let line = c.in-Some-first_line.line.now in
    let behind = c.in-Some-first_line._behind.now in
    let found = added c.args.text.now c.loop.indented.numbers.items c.add.new.self.numbers.items c.loop.units
    c.front-unit.result line behind (omega arith) is.passed is.in_rules here c.front-unit.ensures.first
    c.front-unit.ensures.last c.front-unit.ensures.kind is.indented is.within c.in_ok-add.ensures in
    record {
      passed = passed_on c.args.text.now c.loop.units c.pass.new.self c.front-unit.result line behind (omega arith)
          is.passed here c.front-unit.ensures.first c.front-unit.ensures.last c.front-unit.ensures.kind
          c.pass.ensures.rest c.pass.ensures.passed c.pass.ensures.in_rules;
      in_rules = c.pass.ensures.kept is.in_rules;
      indented = found.0;
      within = subst (λ n. All (λ k. k ≤ n) c.add.new.self.numbers.items) (sym c.pass.ensures.passed) found.1;
    }

pub returns : goal.returns
returns c = c.loop.invariant.indented
