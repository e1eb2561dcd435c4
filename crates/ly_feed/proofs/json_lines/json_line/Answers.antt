use Rattle.std.proofs.Common.{◌≡◌, ◌∙◌, ℕ, List, [], ap, map, subst, sym}
use Rattle.std.specs.Prelude.{IfOk}
use Rattle.ly_feed.proofs.JsonLineLemmas.{refused_without}
use Rattle.ly_feed.specs.JsonLines.{json_refused_with}
use Rattle.ly_feed.specs.SyntaxError.{token_of, verdict_of}
use Rattle.ly_feed.specs.Private.Running.{words_of}
use Rattle.ly_feed.specs.Verdict.{json_printed}
use Rattle.ly_feed.proofs.json_lines.json_line.Goals as goal

pub returns-in-Refused : goal.returns-in-Refused
returns-in-Refused c =
    let v = words_of c.args.names.now in
    let syntax_error = c.in-Refused in
    subst (λ (bytes : List ℕ). IfOk c.refused_line.result (λ line. line.items ≡ bytes))
    (ap (λ ts. json_refused_with v syntax_error.number (token_of syntax_error.token) []
    (map (λ t. t.0) ts)) c.deref.ensures.value
    ∙ (refused_without v syntax_error.number (token_of syntax_error.token) (map (λ t. t.0) syntax_error.expected.items)
    ∙ ap (λ f. json_printed v (verdict_of f)) (sym syntax_error.is)))
    c.refused_line.ensures
