use Rattle.std.proofs.Common.{◌≡◌, ap, map, subst, sym}
use Rattle.std.specs.Prelude.{IfOk}
use Rattle.ly_feed.specs.SyntaxError.{token_of, verdict_of}
use Rattle.ly_feed.specs.TableAnswer.{IsVerdict}
use Rattle.ly_feed.specs.Vocabularies.{vocabulary_of}
use Rattle.ly_places.proofs.PlacingLemmas.{syntax_error_told}
use Rattle.ly_places.proofs.WithinLemmas.{refused_within, unmatched_within}
use Rattle.ly_places.specs.PlacedAnswer.{placed_line, refused, unmatched}
use Rattle.ly_places.proofs.placing.syntax_error_line.Goals as goal

pub refused_line-requires : goal.refused_line-requires
refused_line-requires c =
    let s = c.args.set.now in
    let text = c.args.text.now in
    let syntax_error = c.in-Refused in
    refused_within s text syntax_error.number (token_of syntax_error.token) (map (λ t. t.0) syntax_error.expected.items)
    (subst (λ f. IsVerdict s text (verdict_of f)) syntax_error.is c.requires)

pub unmatched_line-requires : goal.unmatched_line-requires
unmatched_line-requires c =
    let s = c.args.set.now in
    let text = c.args.text.now in
    unmatched_within s text c.in-NoRule.byte (subst (λ f. IsVerdict s text (verdict_of f)) c.in-NoRule.is c.requires)

pub returns-in-Refused : goal.returns-in-Refused
returns-in-Refused c =
    let s = c.args.set.now in
    let text = c.args.text.now in
    let syntax_error = c.in-Refused in
    let v = refused syntax_error.number (token_of syntax_error.token) (map (λ t. t.0) syntax_error.expected.items) in
    syntax_error_told c.refused_line.result (λ line. line.items) s text v (verdict_of c.args.syntax_error.now)
    (subst (λ f. IsVerdict s text (verdict_of f)) syntax_error.is c.requires) (ap verdict_of (sym syntax_error.is))
    (subst (λ es. IfOk c.refused_line.result (λ line. line.items ≡ placed_line (vocabulary_of s) text
    (refused syntax_error.number (token_of syntax_error.token) (map (λ t. t.0) es)))) c.deref.ensures.value
    c.refused_line.ensures)

pub returns-in-NoRule : goal.returns-in-NoRule
returns-in-NoRule c =
    let s = c.args.set.now in
    let text = c.args.text.now in
    let syntax_error = c.in-NoRule in
    syntax_error_told c.unmatched_line.result (λ line. line.items) s text (unmatched syntax_error.byte)
    (verdict_of c.args.syntax_error.now)
    (subst (λ f. IsVerdict s text (verdict_of f)) syntax_error.is c.requires) (ap verdict_of (sym syntax_error.is))
    (c.unmatched_line.ensures (vocabulary_of s))
