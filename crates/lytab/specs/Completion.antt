-- The results of commands, and their exit statuses.
use Rattle.std.specs.Prelude.{◌==◌, ◌&&◌, Bool, None, Option, Some, false, true, ℕ, if◌then◌else◌}
use Rattle.ly_explain.specs.declared.surveying.Findings.{Findings}
use Rattle.ly_drive.specs.declared.lines_outcome.LinesOutcome.{LinesOutcome}
use Rattle.ly_drive.specs.declared.lines_outcome.LinesOutcome.TheVariants.{AllTrees, SomeRefused}
use Rattle.ly_feed.specs.declared.outcome.Outcome.{Outcome}
use Rattle.ly_feed.specs.declared.outcome.Outcome.TheVariants.{NoRule, Syntax, Tree}
use Rattle.ly_listing.specs.declared.token_end.TokenEnd.{TokenEnd}
use Rattle.ly_listing.specs.declared.token_end.TokenEnd.TheVariants.{Clean, Stuck}
use Rattle.ly_report.specs.declared.counts.ConflictCounts.{ConflictCounts}
use Rattle.ly_cli.specs.declared.command.Strictness.{Strictness}
use Rattle.lytab.specs.declared.completion.Completion.{Completion}
use Rattle.lytab.specs.declared.completion.Completion.TheVariants.{NotPassed, Done, FilesRefused, TextRefused}

-- done if the whole text is tokens
abbrev pub completion_of_tokens : TokenEnd → Completion
completion_of_tokens Clean = Done
completion_of_tokens (Stuck byte) = TextRefused

-- done if the text has a tree
abbrev pub completion_of_outcome : Outcome → Completion
completion_of_outcome Tree = Done
completion_of_outcome (Syntax token byte length expected) = TextRefused
completion_of_outcome (NoRule byte) = TextRefused

-- done if the text of each line has a tree
abbrev pub completion_of_lines : LinesOutcome → Completion
completion_of_lines AllTrees = Done
completion_of_lines SomeRefused = TextRefused

-- there are exactly as many shift/reduce conflicts as expected and no reduce/reduce conflicts, or no count is expected
abbrev pub are_expected : Option ℕ → ConflictCounts → Bool
are_expected None counts = true
are_expected (Some n) counts = (counts.shift_reduce == n) && (counts.reduce_reduce == 0)

-- the expected count, if there are other conflicts
abbrev pub missed_count : Option ℕ → ConflictCounts → Option ℕ
missed_count expected counts = if are_expected expected counts then None else expected

-- how many conflicts are expected: the given count, or 0 if warnings aren't allowed either
abbrev pub count_where : Option ℕ → Bool → Option ℕ
count_where (Some n) strict = Some n
count_where None true = Some 0
count_where None false = None

abbrev pub count_due : Strictness → Option ℕ
count_due strictness = count_where strictness.expected strictness.strict

-- files with these findings pass: they have only warnings and conflicts that are allowed
abbrev pub pass : Strictness → Findings → Bool
pass strictness found = if strictness.strict && found.has_warnings then false
    else are_expected (count_due strictness) found.conflicts

-- done if the files are accepted and pass
abbrev pub completion_of_findings : Strictness → Option Findings → Completion
completion_of_findings strictness None = FilesRefused
completion_of_findings strictness (Some found) = if pass strictness found then Done else NotPassed

-- 0 on success, 1 if the text has a syntax error or the explained files don't pass, 2 if they are rejected
abbrev pub completion_status : Completion → ℕ
completion_status Done = 0
completion_status TextRefused = 1
completion_status NotPassed = 1
completion_status FilesRefused = 2
