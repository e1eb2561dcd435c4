-- Laws of the results by tables.
use Rattle.std.specs.Prelude.{◌≡◌, ◌↔◌, ℕ, List, Bool}
use Rattle.std.specs.Int.{Width}
use Rattle.ly_feed.specs.Onward.{AreAlike, Onward}
use Rattle.ly_feed.specs.ScanPart.{ScanPart, scan_part_of}
use Rattle.ly_feed.specs.TableAnswer.{IsRest, IsVerdict, Progress, begun}
use Rattle.ly_feed.specs.Verdict.{Verdict}
use Rattle.ly_pack.specs.Machine.{Machine}
use Rattle.ly_pack.specs.Steady.{IsSteady}
use Rattle.ly_tables.specs.Ranges.{Counts, IsWithinRanges}
use Rattle.ly_tables.specs.TableSet.{TableSet, machine_of}

-- a table set has at most one verdict on a text
abbrev pub HasOneVerdict : Type 0
HasOneVerdict = (s : TableSet) (text : List ℕ) (v u : Verdict) → IsVerdict s text v → IsVerdict s text u → v ≡ u

-- a table set that is within the ranges of some version, and whose parser's runs end, has a verdict on every text
abbrev pub HasSomeVerdict : Type 0
HasSomeVerdict = (w : Width) (counts : Counts) (s : TableSet) → IsWithinRanges w counts s → IsSteady (machine_of s)
    → (text : List ℕ) → (v : Verdict) × IsVerdict s text v

-- decided matches don't change the verdict of tables on the rest of a text, whatever follows
abbrev pub DecidedChangesNothing : Type 0
DecidedChangesNothing = (ended : Bool) (p : ScanPart) (m : Machine) (w u : Progress) → Onward ended p m w u
    → AreAlike ended p m w u

-- the verdict on the rest of a text of which nothing is read is the verdict on the text
abbrev pub BeginningSaysIt : Type 0
BeginningSaysIt = (s : TableSet) (text : List ℕ) (v : Verdict)
    → IsRest (scan_part_of s) (machine_of s) (begun text) v ↔ IsVerdict s text v
