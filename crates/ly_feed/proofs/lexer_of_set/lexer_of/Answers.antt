use Rattle.std.proofs.Common.{◌∙◌, ap}
use Rattle.std.proofs.lemmas.Result.{IfOk-weaker}
use Rattle.ly_feed.specs.LexerOf.{IsLexerOf}
use Rattle.ly_feed.specs.ScanPart.{scan_part_of}
use Rattle.ly_feed.proofs.LexerOfLemmas.{passed_over}
use Rattle.ly_scan.specs.Lexers.{Lexer, scanner_of}
use Rattle.ly_feed.proofs.lexer_of_set.lexer_of.Goals as goal

pub returns : goal.returns
returns c = IfOk-weaker c.new.result _ (IsLexerOf (scan_part_of c.args.set.now)) (λ l e. record {
  scanner = ap (λ (l : Lexer). scanner_of l.scanner) e ∙ c.in_ok-scanner.ensures;
  passed = passed_over c.args.set.now c.scan_rules.result.now l.passed c.scan_rules.ensures
      (ap (λ (l : Lexer). l.passed) e ∙ c.in_ok-passed.ensures);
}) c.new.ensures
