-- A lexer over a text that arrives in chunks.
use Rattle.std.specs.Prelude.{List, Bool}
use Rattle.ly_base.specs.Lexed.{Place}
use Rattle.ly_scan.specs.Lexer.{Scanner}
use Rattle.ly_scan.specs.Matcher.{IsUnderway, Underway}
use Rattle.ly_scan.specs.StateTable.{StateTable, StandsIn, ahead_at, cut_at, states_of}
use Rattle.ly_scan.specs.StateWalk.{state_walk}
use Rattle.ly_scan.specs.declared.state_rows.RowStart.{RowStart}

-- A scanner, and for each of its rules whether its lexemes are skipped.
pub record Lexer : Type 0 where
  pub scanner : StateTable
  pub passed : List Bool

-- the scanner of a table
abbrev pub scanner_of : StateTable → Scanner
scanner_of t = record { walk = state_walk (states_of t); cut = cut_at t }

-- the match at a place is undecided, and it has read all bytes that are left there
abbrev pub IsUnderwayAt : Lexer → Place → Underway RowStart → Type 0
IsUnderwayAt l q u = IsUnderway ((scanner_of l.scanner).walk q.condition q.line) (ahead_at l.scanner)
    (StandsIn l.scanner) q.rest u
