use Rattle.std.proofs.Common.{◌≡◌, ◌∙◌, ℕ, List, ap, subst}
use Rattle.ly_scan.specs.Lexers.{Lexer, scanner_of}
use Rattle.ly_scan.specs.StateTable.{ahead_at}
use Rattle.ly_scan.proofs.lexer.Lexer.tell.Goals as goal

pub tell_behind-requires-clause-there : goal.tell_behind-requires-clause-there
tell_behind-requires-clause-there c =
    let start = c.in_ok-start.start in
    let q = c.pass_over.new.place in
    subst (λ (l : Lexer). (text : List ℕ) → ahead_at l.scanner start text
    ≡ (scanner_of l.scanner).walk 0 q.line text) c.self.view_is
    (λ text. c.in_ok-start.ensures.there text ∙ ap (λ walk. walk text) (c.line_at-line.ensures 0))
