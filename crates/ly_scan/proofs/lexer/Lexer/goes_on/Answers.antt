use Rattle.std.proofs.Common.{◌∙◌, ap, not, subst, sym}
use Rattle.ly_scan.proofs.LexerLemmas.{goes_on_at}
use Rattle.ly_scan.specs.Lexers.{IsUnderwayAt, Lexer, scanner_of}
use Rattle.ly_scan.specs.Pieces.{IsUndecided, behind}
use Rattle.ly_scan.proofs.lexer.Lexer.goes_on.Goals as goal

pub returns : goal.returns
returns c q h e =
    let l : Lexer = record { scanner = c.self.inside.scanner; passed = c.self.inside.passed.items } in
    subst (λ l. IsUnderwayAt l (behind q c.args.bytes.now) c.piece.new.self
    × IsUndecided (scanner_of l.scanner) (behind q c.args.bytes.now)) c.self.view_is
    (goes_on_at l q c.args.bytes.now c.piece.result c.piece.new.self
    (c.piece.ensures q.condition q.line q.rest
    (subst (λ l. IsUnderwayAt l q c.args.matcher.now) (sym c.self.view_is) h)) (c.is_none.ensures ∙ ap not e))
