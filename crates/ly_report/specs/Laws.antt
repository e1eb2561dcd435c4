-- What follows from the definitions of a report and of the counts of conflicts.
use Rattle.std.specs.Prelude.{◌≡◌, ◌++◌, ℕ, List}
use Rattle.ly_join.specs.Joined.{Spec}
use Rattle.ly_report.specs.Counts.{AreCounts}
use Rattle.ly_report.specs.Report.{IsReport, counts_line}
use Rattle.ly_report.specs.declared.counts.ConflictCounts.{ConflictCounts}

-- a specification has exactly one report
abbrev pub ReportIsOne : Type 0
ReportIsOne = (s : Spec) (a b : List ℕ) → IsReport s a → IsReport s b → a ≡ b

-- and exactly one count of conflicts of each kind
abbrev pub CountsAreOne : Type 0
CountsAreOne = (s : Spec) (a b : ConflictCounts) → AreCounts s a → AreCounts s b → a ≡ b

-- the line of these counts is part of the report
abbrev pub ReportTellsCounts : Type 0
ReportTellsCounts = (s : Spec) (text : List ℕ) (counts : ConflictCounts) → IsReport s text → AreCounts s counts
    → (before behind : List ℕ) × (text ≡ before ++ (counts_line counts.shift_reduce counts.reduce_reduce ++ behind))
