-- The parser of a specification, and its conflicts.
use Rattle.std.specs.Prelude.{◌≤◌, ◌↔◌, ℕ, Option, Some, None, IsTrue, length}
use Rattle.std.specs.declared.alloc.Global.{Global}
use Rattle.std.specs.declared.vec.Vec.{Vec}
use Rattle.ly_base.specs.Limits.{Sizes}
use Rattle.ly_emit.specs.Tables.{IsMachineOf}
use Rattle.ly_join.specs.Joined.{Spec}
use Rattle.ly_lr0.specs.Automaton.{Lr0Automaton, IsLr0Automaton}
use Rattle.ly_pack.specs.Steady.{IsSteady}
use Rattle.ly_report.specs.Counts.{AreCounts}
use Rattle.ly_report.specs.Report.{IsReport}
use Rattle.ly_resolve.specs.Actions.{IsConflictFree}
use Rattle.ly_generate.specs.Accepted.{IsFit}
use Rattle.ly_generate.specs.declared.parser.SpecParser.{SpecParser}
use Rattle.ly_generate.specs.declared.report_request.ReportRequest.{ReportRequest}
use Rattle.ly_generate.specs.declared.report_request.ReportRequest.TheVariants.{Wanted, Unwanted}

-- the report of the specification exists exactly if it is requested
abbrev pub IsReportIf : ReportRequest → Spec → Option (Vec ℕ Global) → Type 0
IsReportIf Wanted s (Some text) = IsReport s text.items
IsReportIf Unwanted s None = Unit {0}
IsReportIf _ s _ = ⊥

-- The tables are those of the specification's useful rules. The rules are within the limits, and every run of their
-- tables ends. The conflicts are counted, the flag says whether no state has two possible actions, and the report
-- exists if it is requested.
pub record IsParserOf (limits : Sizes) (s : Spec) (report : ReportRequest) (p : SpecParser) : Type 0 where
  pub automaton : Lr0Automaton
  pub is_automaton : IsLr0Automaton automaton
  pub few : length automaton.states ≤ limits.parser_states
  pub fit : IsFit limits s automaton.grammar
  pub is_machine : IsMachineOf s automaton p.machine
  pub steady : IsSteady p.machine
  pub counts : AreCounts s p.conflicts
  pub free : IsTrue p.conflict_free ↔ IsConflictFree automaton.grammar
  pub reported : IsReportIf report s p.report
