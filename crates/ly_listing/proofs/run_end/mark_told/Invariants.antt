use Rattle.std.proofs.Common.{◌≤◌, ℕ, List, length}
use Rattle.ly_base.specs.Lexed.{Token}
use Rattle.ly_listing.specs.Private.Marks.{AreMarked}
use Rattle.ly_listing.specs.Private.SoFar.{LeadsOn}
use Rattle.ly_scan.specs.Lexers.{scanner_of}
use Rattle.ly_listing.proofs.run_end.mark_told.Given as goal

-- lexemes lead to where the run stands, and their tokens are marked too
abbrev pub invariant-loop-told : goal.invariant-loop-told
invariant-loop-told l =
    let s = scanner_of l.lexer.scanner in record {
      leads : (told : List (Token (List ℕ))) × LeadsOn l.labels s l.fn.start l.place told;
      marked : (text : List ℕ) → AreMarked l.labels s text l.fn.start l.fn.marks.marks.items l.fn.marks.left
          → AreMarked l.labels s text l.place l.marks.marks.items l.marks.left;
      behind : length l.place.rest ≤ l.marks.left;
    }

abbrev pub decreases-loop-told : goal.decreases-loop-told
decreases-loop-told l = length l.place.rest
