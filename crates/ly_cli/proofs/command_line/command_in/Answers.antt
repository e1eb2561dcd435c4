use Rattle.std.proofs.Common.{◌∙◌}
use Rattle.ly_cli.proofs.CommandLineLemmas.{request_is}
use Rattle.ly_cli.proofs.command_line.command_in.Goals as goal

pub returns-in-tokens : goal.returns-in-tokens
returns-in-tokens c = c.tokens_in.ensures ∙ request_is _ _ c.in_ok-name.name.now c.in_ok-name.values.now
    c.in_ok-name.ensures.name c.in_ok-name.ensures.rows c.in-tokens.is

pub returns-in-build : goal.returns-in-build
returns-in-build c = c.build_in.ensures ∙ request_is _ _ c.in_ok-name.name.now c.in_ok-name.values.now
    c.in_ok-name.ensures.name c.in_ok-name.ensures.rows c.in-build.is

pub returns-in-run : goal.returns-in-run
returns-in-run c = c.run_in.ensures ∙ request_is _ _ c.in_ok-name.name.now c.in_ok-name.values.now
    c.in_ok-name.ensures.name c.in_ok-name.ensures.rows c.in-run.is

pub returns-in-try : goal.returns-in-try
returns-in-try c = c.try_in.ensures ∙ request_is _ _ c.in_ok-name.name.now c.in_ok-name.values.now
    c.in_ok-name.ensures.name c.in_ok-name.ensures.rows c.in-try.is

pub returns-in-check : goal.returns-in-check
returns-in-check c = c.check_in.ensures ∙ request_is _ _ c.in_ok-name.name.now c.in_ok-name.values.now
    c.in_ok-name.ensures.name c.in_ok-name.ensures.rows c.in-check.is

pub returns-in-explain : goal.returns-in-explain
returns-in-explain c = c.explain_in.ensures ∙ request_is _ _ c.in_ok-name.name.now c.in_ok-name.values.now
    c.in_ok-name.ensures.name c.in_ok-name.ensures.rows c.in-explain.is
