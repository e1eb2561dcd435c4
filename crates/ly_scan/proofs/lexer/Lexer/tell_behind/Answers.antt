use Rattle.std.proofs.Common.{◌≡◌, ◌∙◌, ◌+◌, ◌++◌, ℕ, List, ap, arith, get_or, length, refl, subst, sym, take}
use Rattle.ly_scan.proofs.FactLemmas.{is_told}
use Rattle.ly_scan.specs.Facts.{IsTaggedLexeme, facts_by}
use Rattle.ly_scan.specs.Lexers.{Lexer, scanner_of}
use Rattle.ly_scan.specs.StateTable.{ahead_at}
use Rattle.ly_scan.specs.declared.tagged_lexeme.TaggedLexeme.{TaggedLexeme}
use Rattle.ly_scan.proofs.lexer.Lexer.tell_behind.Goals as goal

pub returns : goal.returns
returns c = λ by_rule all.
    let t = c.self.inside.scanner in
    let q = c.args.place.now in
    let walked = c.walk_on-taken in
    let start = c.args.start in
    let at = walked.result.1 in
    let facts = c.args.facts.now in
    let left = c.rest-rest.ensures in
    let told : TaggedLexeme = record { fact = get_or facts c.state.result 0; taken = walked.result.0 } in
    subst (λ (l : Lexer). IsTaggedLexeme (scanner_of l.scanner) by_rule q told) c.self.view_is
    (is_told t q q.line start at by_rule facts told
    (subst (λ (l : Lexer). facts ≡ facts_by l.scanner by_rule) (sym c.self.view_is) all)
    walked.ensures.stands.1 (ap (λ k. get_or facts k 0) (sym c.state.ensures)) c.if-fact-eq0.false
    c.requires.initial refl
    (subst (λ (l : Lexer). (text : List ℕ) → ahead_at l.scanner start text
    ≡ (scanner_of l.scanner).walk 0 q.line text) (sym c.self.view_is) c.requires.there)
    (omega (arith, c.if-taken-eq0.false))
    (omega (arith, c.if-taken-rest.false, walked.ensures.within, ap length left))
    (λ text. walked.ensures.ahead text ∙ ap (λ b. ahead_at t start (take walked.result.0 b ++ text)) left)
    (ap (λ b. ahead_at t start (take (walked.result.0 + 1) b)) (sym left)
    ∙ walked.ensures.ended (omega (arith, c.if-taken-rest.false, walked.ensures.within))))
