-- The parser of a specification over an automaton.
use Rattle.std.specs.Prelude.{◌↔◌, IsTrue}
use Rattle.ly_emit.specs.Tables.{IsMachineOf}
use Rattle.ly_join.specs.Joined.{Spec}
use Rattle.ly_lr0.specs.Automaton.{Lr0Automaton}
use Rattle.ly_pack.specs.Steady.{IsSteady}
use Rattle.ly_report.specs.Counts.{AreCounts}
use Rattle.ly_resolve.specs.Actions.{IsConflictFree}
use Rattle.ly_generate.specs.Parser.{IsReportIf}
use Rattle.ly_generate.specs.declared.parser.SpecParser.{SpecParser}
use Rattle.ly_generate.specs.declared.report_request.ReportRequest.{ReportRequest}

-- The tables are those of the specification and its automaton, and every run of theirs ends; the conflicts are counted,
-- it is said whether nowhere two actions are asked for, and the report is there where it is wanted.
pub record IsParserOver (s : Spec) (M : Lr0Automaton) (report : ReportRequest) (p : SpecParser) : Type 0 where
  pub is_machine : IsMachineOf s M p.machine
  pub steady : IsSteady p.machine
  pub counts : AreCounts s p.conflicts
  pub free : IsTrue p.conflict_free ↔ IsConflictFree M.grammar
  pub reported : IsReportIf report s p.report
