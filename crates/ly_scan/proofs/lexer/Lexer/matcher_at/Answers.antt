use Rattle.std.proofs.Common.{subst, sym}
use Rattle.std.specs.Prelude.{[]}
use Rattle.ly_scan.proofs.LexerLemmas.{underway_at}
use Rattle.ly_scan.specs.Lexers.{IsUnderwayAt, Lexer, scanner_of}
use Rattle.ly_scan.specs.Pieces.{IsUndecided}
use Rattle.ly_scan.proofs.lexer.Lexer.matcher_at.Goals as goal

pub returns : goal.returns
returns c =
    let l : Lexer = record { scanner = c.self.inside.scanner; passed = c.self.inside.passed.items } in
    let q = c.args.place.now in
    subst (λ l. IsUnderwayAt l q c.piece-undecided.new.self) c.self.view_is
    (underway_at l q c.condition.result c.at_line_start.result c.rest.result.now c.piece-undecided.result
    c.piece-undecided.new.self c.condition.ensures c.at_line_start.ensures c.rest.ensures
    (subst (λ l. IsUndecided (scanner_of l.scanner) q) (sym c.self.view_is) c.requires)
    (c.piece-undecided.ensures c.condition.result c.at_line_start.result [] c.new-matcher.ensures))
