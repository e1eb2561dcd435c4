-- What a call reports about a text beside the status.
use Rattle.std.specs.Prelude.{◌≡◌, ℕ, ◌+◌, Some, length}
use Rattle.ly_drive.specs.DriveFault.{drive_number}
use Rattle.ly_drive.specs.declared.fault.DriveFault.{DriveFault}
use Rattle.ly_feed.specs.declared.syntax_error.SyntaxError as syntax_error
use Rattle.ly_feed.specs.declared.syntax_error.SyntaxError.TheVariants as syntax_errors
use Rattle.ly_feed.specs.declared.outcome.Outcome.{Outcome}
use Rattle.ly_feed.specs.declared.outcome.Outcome.TheVariants.{NoRule, Syntax, Tree}
use Rattle.lytab_c.specs.Faults.{drive_section}
use Rattle.lytab_c.specs.declared.report.Report.{Report}

-- a report for an output of this many items, with all other fields 0
abbrev pub needing : ℕ → Report
needing needed = record {
  fault = 0;
  section = 0;
  terminal = 0;
  unused = 0;
  number = 0;
  start = 0;
  end = 0;
  needed = needed;
  expected = 0;
}

-- a report with all fields 0
abbrev pub nothing_told : Report
nothing_told = needing 0

-- a report for an invalid argument with this number
abbrev pub numbering : ℕ → Report
numbering number = record nothing_told { number = number }

-- a report for an error with this number, in this section
abbrev pub at_fault : ℕ → ℕ → Report
at_fault number section = record nothing_told { fault = number; section = section }

-- an error that has a number is reported
abbrev pub TellsFault : DriveFault → Report → Type 0
TellsFault fault report = (number : ℕ) × (drive_number fault ≡ Some number)
    × (report ≡ at_fault number (drive_section fault))

-- the report for an outcome with an output of this many bytes
abbrev pub outcome_report : Outcome → ℕ → Report
outcome_report Tree needed = needing needed
outcome_report (Syntax token byte count expected) needed = record (needing needed) {
  number = token;
  start = byte;
  end = byte + count;
  expected = length expected.items;
}
outcome_report (NoRule byte) needed = record (needing needed) { start = byte; end = byte }

-- the report for a syntax error, without parts
abbrev pub syntax_error_report : syntax_error.SyntaxError → Report
syntax_error_report (syntax_errors.Refused number token expected) = record nothing_told {
  terminal = token.terminal.0;
  number = number;
  start = token.at;
  end = token.at + length token.text;
  expected = length expected.items;
}
syntax_error_report (syntax_errors.NoRule byte) = record nothing_told { start = byte; end = byte }
