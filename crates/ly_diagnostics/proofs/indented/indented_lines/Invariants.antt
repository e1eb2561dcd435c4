use Rattle.std.proofs.Common.{◌≡◌, ◌≤◌, All, true}
use Rattle.ly_diagnostics.specs.Indented.{AreIndented}
use Rattle.ly_diagnostics.specs.Lines.{ArePassed}
use Rattle.ly_diagnostics.proofs.indented.indented_lines.Given as goal

-- those among the lines that were passed are found
abbrev pub invariant-loop : goal.invariant-loop
invariant-loop l = record {
  passed : ArePassed l.text l.units;
  in_rules : l.units.in_rules ≡ true;
  indented : AreIndented l.text l.indented.numbers.items;
  within : All (λ n. n ≤ l.units.passed) l.indented.numbers.items;
}
