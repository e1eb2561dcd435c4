-- The number of conflicts of each kind in a specification.
use Rattle.std.specs.Prelude.{◌≡◌, List, map}
use Rattle.ly_grammar.specs.Reduction.{KeepsUseful}
use Rattle.ly_join.specs.Grammar.{Grammar}
use Rattle.ly_join.specs.Joined.{Spec}
use Rattle.ly_resolve.specs.Conflicts.{AreConflicts, Conflict, reduce_reduce, shift_reduce}
use Rattle.ly_resolve.specs.Precedence.{judge_of}
use Rattle.ly_report.specs.Report.{count_of}
use Rattle.ly_report.specs.declared.counts.ConflictCounts.{ConflictCounts}

-- The counts are those of the conflicts of the specification's useful rules.
pub record AreCounts (s : Spec) (counts : ConflictCounts) : Type 0 where
  pub useful : Grammar
  pub are_useful : KeepsUseful s.grammar useful
  pub conflicts : List Conflict
  pub are_conflicts : AreConflicts useful (judge_of s) conflicts
  pub shifts : counts.shift_reduce ≡ count_of shift_reduce (map (λ c. c.kind) conflicts)
  pub reductions : counts.reduce_reduce ≡ count_of reduce_reduce (map (λ c. c.kind) conflicts)
