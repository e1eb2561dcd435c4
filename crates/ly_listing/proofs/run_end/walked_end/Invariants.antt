use Rattle.std.proofs.Common.{◌≤◌, length, true}
use Rattle.ly_scan.specs.KnownWalks.{AreKnown}
use Rattle.ly_scan.specs.Lexers.{scanner_of}
use Rattle.ly_scan.specs.StateTable.{ahead_in}
use Rattle.ly_listing.specs.Private.Marks.{AreMarked}
use Rattle.ly_listing.proofs.run_end.walked_end.Given as goal

-- the lexemes so far lead to where the run stands, their tokens are marked, and what is known of walks is so there
abbrev pub invariant-loop-lexeme : goal.invariant-loop-lexeme
invariant-loop-lexeme l = record {
  marked : AreMarked l.labels (scanner_of l.lexer.scanner) l.text l.place l.marks.marks.items l.marks.left;
  behind : length l.place.rest ≤ l.marks.left;
  known : AreKnown (ahead_in l.lexer.scanner) true l.place.rest l.known;
}

abbrev pub decreases-loop-lexeme : goal.decreases-loop-lexeme
decreases-loop-lexeme l = length l.place.rest
