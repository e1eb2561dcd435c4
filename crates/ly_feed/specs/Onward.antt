-- What doesn't change while matches are decided, whatever follows the known bytes of a text.
use Rattle.std.specs.Prelude.{◌≡◌, ℕ, ◌+◌, List, Bool, Some, None, take}
use Rattle.ly_base.specs.Lexed.{Place, Token, place_after}
use Rattle.ly_base.specs.declared.lexeme.Lexeme.{Lexeme}
use Rattle.ly_feed.specs.ScanPart.{ScanPart, condition_in, scanner_in, terminal_in}
use Rattle.ly_feed.specs.TableAnswer.{Progress, IsRest, with_more}
use Rattle.ly_feed.specs.Verdict.{Verdict}
use Rattle.ly_pack.specs.Machine.{Machine}
use Rattle.ly_parse.specs.Feeding.{Feeds, Level, pushed}
use Rattle.ly_scan.specs.Pieces.{CanFollow, IsDecided}

-- the lexeme at a place has this token
pub record IsTokenAt (p : ScanPart) (q : Place) (t : Lexeme) (token : Token ℕ) : Type 0 where
  pub at : token.at ≡ q.at
  pub bytes : token.bytes ≡ take t.taken q.rest
  pub terminal : terminal_in p t.rule.0 token.bytes ≡ Some token.terminal

-- the progress of a run after a lexeme without a token
abbrev pub passed_on : ScanPart → Progress → Lexeme → Progress
passed_on p w t = record { place = place_after (condition_in p) w.place t; stack = w.stack; count = w.count }

-- and after one whose token is read
abbrev pub read_on : ScanPart → Progress → Lexeme → List Level → Progress
read_on p w t next = record { place = place_after (condition_in p) w.place t; stack = next; count = w.count + 1 }

-- Decided matches lead from one progress to the other: each was skipped, or its token was read.
pub data Onward (ended : Bool) (p : ScanPart) (m : Machine) (w : Progress) : Progress → Type 0 where
  none_yet : Onward ended p m w w
  and_passes : {u : Progress} (t : Lexeme) → Onward ended p m w u → IsDecided ended (scanner_in p) u.place t
      → terminal_in p t.rule.0 (take t.taken u.place.rest) ≡ None → Onward ended p m w (passed_on p u t)
  and_reads : {u : Progress} {next : List Level} (t : Lexeme) (token : Token ℕ) → Onward ended p m w u
      → IsDecided ended (scanner_in p) u.place t → IsTokenAt p u.place t token → Feeds m token u.stack (pushed next)
      → Onward ended p m w (read_on p u t next)

-- both have the same verdict, whatever follows
abbrev pub AreAlike : Bool → ScanPart → Machine → Progress → Progress → Type 0
AreAlike ended p m w u = (more : List ℕ) → CanFollow ended more → (v : Verdict)
    → (IsRest p m (with_more w more) v → IsRest p m (with_more u more) v)
    × (IsRest p m (with_more u more) v → IsRest p m (with_more w more) v)

-- the verdict is this, whatever follows
abbrev pub IsSettled : Bool → ScanPart → Machine → Progress → Verdict → Type 0
IsSettled ended p m w v = (more : List ℕ) → CanFollow ended more → IsRest p m (with_more w more) v
