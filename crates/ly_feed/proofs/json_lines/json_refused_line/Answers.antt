use Rattle.std.proofs.Common.{◌≡◌, map, subst}
use Rattle.std.specs.Prelude.{IfOk}
use Rattle.ly_feed.specs.JsonLines.{json_refused_with}
use Rattle.ly_feed.specs.SyntaxError.{token_of}
use Rattle.ly_feed.proofs.json_lines.json_refused_line.Goals as goal

pub returns : goal.returns
returns c =
    subst (λ v. IfOk c.refused_line.result (λ line. line.items ≡ json_refused_with v c.args.number
    (token_of c.args.token.now) c.args.places.now (map (λ t. t.0) c.args.expected.now)))
    c.of.ensures c.refused_line.ensures
