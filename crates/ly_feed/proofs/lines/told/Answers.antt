use Rattle.std.proofs.Common.{◌∙◌, ap}
use Rattle.ly_feed.specs.SyntaxError.{verdict_of}
use Rattle.ly_feed.specs.Verdict.{written_in}
use Rattle.ly_feed.proofs.lines.told.Goals as goal

pub returns : goal.returns
returns c = (
  c.into_outcome.ensures,
  c.in_ok-lines.ensures ∙ ap (λ v. written_in c.args.form v (verdict_of c.args.syntax_error)) c.of.ensures,
)
