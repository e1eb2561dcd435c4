use Rattle.std.proofs.Common.{◌∙◌, sym}
use Rattle.ly_cli.proofs.CommandLineLemmas.{faults_in, found_in, line_is_free, line_is_simple, taken_in}
use Rattle.ly_cli.proofs.command_line.matched.Goals as goal

pub returns-in-Ok-clause-found : goal.returns-in-Ok-clause-found
returns-in-Ok-clause-found c =
    (c.in-Ok.ensures.matches (line_is_simple _ c.in_ok-line.ensures)).1 ∙ found_in _ _ c.in_ok-line.ensures

pub returns-in-Ok-clause-faultless : goal.returns-in-Ok-clause-faultless
returns-in-Ok-clause-faultless c =
    sym (faults_in _ _ c.in_ok-line.ensures) ∙ c.in-Ok.ensures.kinds (line_is_free _ c.in_ok-line.ensures)

pub returns-in-Err-clause-taken : goal.returns-in-Err-clause-taken
returns-in-Err-clause-taken c = λ h.
    c.refusal.ensures (c.in-Err.ensures.passes (taken_in _ _ c.in_ok-line.ensures ∙ h))
