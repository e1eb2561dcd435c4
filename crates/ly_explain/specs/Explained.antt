-- When a report says that two files are accepted.
use Rattle.std.specs.Prelude.{◌≢◌, ℕ, List, MatchOption, codes}
use Rattle.ly_base.specs.Limits.{Sizes}
use Rattle.ly_join.specs.Grammar.{Grammar}
use Rattle.ly_join.specs.Joined.{Spec}
use Rattle.ly_generate.specs.Accepted.{IsFit, IsRefusedFor, Specifies}
use Rattle.ly_generate.specs.declared.gen_fault.GenFault.{GenFault}
use Rattle.ly_generate.specs.declared.gen_fault.GenFault.TheVariants.{OutOfMemory}
use Rattle.ly_report.specs.Counts.{AreCounts}
use Rattle.ly_report.specs.declared.counts.ConflictCounts.{ConflictCounts}
use Rattle.ly_explain.specs.Findings.{AreFoundIn}
use Rattle.ly_explain.specs.declared.surveying.Explanation.{Explanation}

-- The bytes of both files define a specification within the limits, whose tables can be made, with these numbers of
-- conflicts.
pub record IsWellFormed (limits : Sizes) (lex yacc : List ℕ) (counts : ConflictCounts) : Type 0 where
  pub spec : Spec
  pub specifies : Specifies limits lex yacc spec
  pub useful : Grammar
  pub fit : IsFit limits spec useful
  pub are_counts : AreCounts spec counts

-- If the files are accepted, the report says so and has the numbers of conflicts. Otherwise there is an error with
-- which they are rejected.
abbrev pub IsExplained : Sizes → List ℕ → List ℕ → Explanation → Type 0
IsExplained limits lex yacc e = MatchOption e.findings
    ((fault : GenFault) × (fault ≢ OutOfMemory) × IsRefusedFor limits lex yacc fault)
    (λ found. IsWellFormed limits lex yacc found.conflicts)

-- a lex file without rules, in place of a missing one
abbrev pub no_rules : List ℕ
no_rules = codes "%%\n"

-- the report says that files with this specification are accepted, and its tables can be made
abbrev pub IsFitFor : Sizes → Spec → Explanation → Type 0
IsFitFor limits s e = ((useful : Grammar) × IsFit limits s useful) × AreFoundIn s e
