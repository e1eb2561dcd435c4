use Rattle.ly_diagnostics.specs.Lines.{LinesBefore}
use Rattle.ly_diagnostics.proofs.lex_units.behind_lines.Given as goal

-- so many lines were passed
abbrev pub invariant-loop : goal.invariant-loop
invariant-loop l = LinesBefore l.counter l.text l.rest
