use Rattle.std.proofs.Common.{◌∙◌, ap, is_some, option_and_then, sym, true≢false, unwrap_or}
use Rattle.ly_cli.specs.CommandLine.{request_by}
use Rattle.ly_cli.proofs.RequestLemmas.{refused_up}
use Rattle.ly_cli.proofs.command_line.read_command.Goals as goal

pub returns-in_err-matches-clause-taken : goal.returns-in_err-matches-clause-taken
returns-in_err-matches-clause-taken c =
    λ request a. refused_up c.from_residual.result c.in_err-matches.field-0.0 _ _ c.from_residual.ensures.1
    (c.in_err-matches.ensures.taken a.0)

pub returns-in-Some-clause-taken : goal.returns-in-Some-clause-taken
returns-in-Some-clause-taken c =
    λ request a. ap (λ o. unwrap_or o request)
    (c.in-Some.ensures ∙ ap (option_and_then request_by) c.in_ok-matches.ensures.found ∙ a.1)

pub returns-clause-taken : goal.returns-clause-taken
returns-clause-taken c =
    λ request a. absurd (true≢false (sym (ap is_some
    (c.in-None.ensures ∙ ap (option_and_then request_by) c.in_ok-matches.ensures.found ∙ a.1))))
