use Rattle.std.proofs.Common.{◌≡◌, ◌∙◌, ap}
use Rattle.std.proofs.lemmas.Result.{IfOk-weaker}
use Rattle.clap.specs.Words.{App, with_subcommand}
use Rattle.ly_cli.specs.CommandLine.{build_app, check_app, explain_app, run_app, tokens_app, try_app}
use Rattle.ly_cli.proofs.line.line.Goals as goal

-- a subcommand behind those of a line
joined : (sub : App) {new old line : App} → new ≡ with_subcommand old sub.top → old ≡ line
    → new ≡ with_subcommand line sub.top
joined sub e is = e ∙ ap (λ a. with_subcommand a sub.top) is

pub returns : goal.returns
returns c =
    IfOk-weaker c.with-6.result _ _ (λ m h.
    joined explain_app (h explain_app c.explain_line.ensures)
    (joined check_app (c.in_ok-line-5.ensures check_app c.check_line.ensures)
    (joined try_app (c.in_ok-line-4.ensures try_app c.try_line.ensures)
    (joined run_app (c.in_ok-line-3.ensures run_app c.run_line.ensures)
    (joined build_app (c.in_ok-line-2.ensures build_app c.build_line.ensures)
    (joined tokens_app (c.in_ok-line.ensures tokens_app c.tokens_line.ensures) c.top.ensures))))))
    c.with-6.ensures
