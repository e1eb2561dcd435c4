use Rattle.std.proofs.Common.{◌≡◌, ◌≢◌, ◌∙◌, [], ap, length}
use Rattle.std.specs.Prelude.{◌==◌, false, true}
use Rattle.ly_scan.proofs.PieceLemmas.{ends_cut, ends_stuck, match_at, stands_fast}
use Rattle.ly_scan.specs.Lexer.{Scanner}
use Rattle.ly_scan.proofs.lexeme.next_lexeme.Goals as goal

pub returns-in-Win-clause-found : goal.returns-in-Win-clause-found
returns-in-Win-clause-found g c =
    let s : Scanner = record { walk = g.S.Steps.walk c.args.steps.now; cut = g.S.Steps.cut_of c.args.steps.now } in
    let q = c.args.place.now in
    stands_fast s q c.args.ended c.in-Win.rule c.in-Win.matched c.in-Win.token_len
    (match_at s q c.args.ended _ c.rest-rest.result.now c.in-Some.found _ c.in-Win.is
    (c.line_at-line.ensures c.condition.result ∙ ap (λ k. s.walk k q.line) c.condition.ensures) c.rest-rest.ensures
    c.in-Some.ensures.decided)

pub returns-in-BadCut-clause-end : goal.returns-in-BadCut-clause-end
returns-in-BadCut-clause-end g c =
    let s : Scanner = record { walk = g.S.Steps.walk c.args.steps.now; cut = g.S.Steps.cut_of c.args.steps.now } in
    let q = c.args.place.now in
    ends_cut s q c.args.ended c.at.result c.at.ensures
    (match_at s q c.args.ended _ c.rest-rest.result.now c.in-Some.found _ c.in-BadCut.is
    (c.line_at-line.ensures c.condition.result ∙ ap (λ k. s.walk k q.line) c.condition.ensures) c.rest-rest.ensures
    c.in-Some.ensures.decided)

pub returns-in-Stuck-clause-end : goal.returns-in-Stuck-clause-end
returns-in-Stuck-clause-end g c =
    let s : Scanner = record { walk = g.S.Steps.walk c.args.steps.now; cut = g.S.Steps.cut_of c.args.steps.now } in
    let q = c.args.place.now in
    let some : q.rest ≢ [] = λ none. (let no : false ≡ true
    = c.if-is_empty.ensures ∙ ap (λ t. length t == 0) (c.rest-rest.ensures ∙ none) in cc) in
    ends_stuck s q c.args.ended c.at-in-Stuck.result c.at-in-Stuck.ensures some
    (match_at s q c.args.ended _ c.rest-rest.result.now c.in-Some.found _ c.in-Stuck.is
    (c.line_at-line.ensures c.condition.result ∙ ap (λ k. s.walk k q.line) c.condition.ensures) c.rest-rest.ensures
    c.in-Some.ensures.decided)
