use Rattle.ly_diagnostics.specs.Lines.{ArePassed}
use Rattle.ly_diagnostics.proofs.lex_units.Units.behind_mark.Given as goal

-- these were passed
abbrev pub invariant-loop : goal.invariant-loop
invariant-loop l = ArePassed l.text l.units
