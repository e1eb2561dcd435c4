-- The findings about two accepted files.
use Rattle.std.specs.Prelude.{◌≡◌, ◌++◌, ℕ, List, MatchOption, None, Option, Some, codes}
use Rattle.std.specs.Fmt.{decimal}
use Rattle.ly_analysis.specs.declared.analysis.Form.{Form}
use Rattle.ly_analysis.specs.declared.analysis.Form.TheVariants.{Json, Plain, Sarif}
use Rattle.ly_join.specs.Joined.{Spec}
use Rattle.ly_report.specs.Counts.{AreCounts}
use Rattle.ly_report.specs.declared.counts.ConflictCounts.{ConflictCounts}
use Rattle.ly_explain.specs.declared.surveying.Explanation.{Explanation}
use Rattle.ly_explain.specs.declared.surveying.Findings.{Findings}

-- the findings are that the files of this specification are accepted, and the numbers of their conflicts
abbrev pub AreFoundIn : Spec → Explanation → Type 0
AreFoundIn s e = MatchOption e.findings ⊥ (λ found. AreCounts s found.conflicts)

-- the numbers of conflicts as JSON, up to the second number
abbrev pub json_counts : ConflictCounts → List ℕ
json_counts counts = codes "{\"shift_reduce\":" ++ decimal counts.shift_reduce ++ codes ",\"reduce_reduce\":"
    ++ decimal counts.reduce_reduce

-- whether files are accepted, and the numbers of conflicts, as JSON
abbrev pub json_front : Option Findings → List ℕ
json_front None = codes "{\"accepted\":false,\"counts\":null"
json_front (Some found) = codes "{\"accepted\":true,\"counts\":" ++ json_counts found.conflicts

-- a text as JSON begins with these findings
abbrev pub IsJson : Option Findings → List ℕ → Type 0
IsJson findings text = (rest : List ℕ) × (text ≡ json_front findings ++ rest)

-- a text as SARIF begins with the version of the format
abbrev pub IsSarif : List ℕ → Type 0
IsSarif text = (rest : List ℕ) × (text ≡ codes "{\"version\":\"2.1.0\"" ++ rest)

-- the text is in the form, with these findings
abbrev pub IsInForm : Form → Option Findings → List ℕ → Type 0
IsInForm Json findings text = IsJson findings text
IsInForm Sarif findings text = IsSarif text
IsInForm Plain findings text = Unit {0}
