use Rattle.std.proofs.Common.{ℕ, List, length, true}
use Rattle.ly_scan.specs.KnownWalks.{AreKnown}
use Rattle.ly_scan.specs.Lexers.{scanner_of}
use Rattle.ly_scan.specs.StateTable.{ahead_in}
use Rattle.ly_base.specs.Lexed.{Token}
use Rattle.ly_listing.specs.Private.SoFar.{SoFar}
use Rattle.ly_listing.proofs.run_end.end_from.Given as goal

-- the lexemes so far lead to where the run stands, and what is known of walks is so there
abbrev pub invariant-loop-lexeme : goal.invariant-loop-lexeme
invariant-loop-lexeme l = record {
  so_far : (told : List (Token (List ℕ))) × SoFar l.labels (scanner_of l.lexer.scanner) l.fn.start l.place told;
  known : AreKnown (ahead_in l.lexer.scanner) true l.place.rest l.known;
}

abbrev pub decreases-loop-lexeme : goal.decreases-loop-lexeme
decreases-loop-lexeme l = length l.place.rest
