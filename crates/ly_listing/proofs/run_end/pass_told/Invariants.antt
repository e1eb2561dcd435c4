use Rattle.std.proofs.Common.{ℕ, List, length}
use Rattle.ly_base.specs.Lexed.{Token}
use Rattle.ly_listing.specs.Private.SoFar.{LeadsOn}
use Rattle.ly_scan.specs.Lexers.{scanner_of}
use Rattle.ly_listing.proofs.run_end.pass_told.Given as goal

-- lexemes lead to where the run stands
abbrev pub invariant-loop-told : goal.invariant-loop-told
invariant-loop-told l =
    (told : List (Token (List ℕ))) × LeadsOn l.labels (scanner_of l.lexer.scanner) l.fn.start l.place told

abbrev pub decreases-loop-told : goal.decreases-loop-told
decreases-loop-told l = length l.place.rest
