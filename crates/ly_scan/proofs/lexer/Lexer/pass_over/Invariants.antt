use Rattle.std.proofs.Common.{◌≤◌, length}
use Rattle.ly_scan.specs.Pieces.{PassesOver}
use Rattle.ly_scan.specs.Lexers.{scanner_of}
use Rattle.ly_scan.proofs.lexer.Lexer.pass_over.Given as goal

abbrev pub invariant-loop-self : goal.invariant-loop-self
invariant-loop-self l = record {
  passed : PassesOver (scanner_of l.self.scanner) l.self.passed l.fn.place l.place;
  left : length l.place.rest ≤ length l.fn.place.rest;
}

abbrev pub decreases-loop-self : goal.decreases-loop-self
decreases-loop-self l = length l.place.rest
