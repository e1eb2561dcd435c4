-- A piece that a reader gives on its way into a feed.
use Rattle.std.specs.Prelude.{◌≡◌, ◌<◌, ◌≤◌, ◌^◌, ℕ, ◌+◌, List, [], ◌++◌, Option, Some, None, Result, Ok, Err, false}
use Rattle.std.specs.Prelude.{length}
use Rattle.std.specs.Io.KnownBytes.{Consumes, IsAtEnd}
use Rattle.ly_feed.specs.Held.{Held, IsOnward, IsRestOf, IsSettledBy, seen}
use Rattle.ly_feed.specs.Onward.{Onward}
use Rattle.ly_feed.specs.ScanPart.{scan_part_of, scanner_in}
use Rattle.ly_feed.specs.TableAnswer.{IsVerdict, begun}
use Rattle.ly_feed.specs.Verdict.{Verdict, faulty}
use Rattle.ly_feed.specs.declared.need.Need.{Need}
use Rattle.ly_feed.specs.declared.need.Need.TheVariants.{More, Settled}
use Rattle.ly_feed.specs.declared.text_fault.TextFault.{TextFault}
use Rattle.ly_feed.specs.declared.text_fault.TextFault.TheVariants.{FaultyTables, OutOfMemory, Read, TooLong}
use Rattle.ly_print.specs.declared.answer_form.AnswerForm.{AnswerForm}
use Rattle.ly_scan.specs.Pieces.{IsUndecided}
use Rattle.ly_tables.specs.TableSet.{TableSet, machine_of}

-- A reader gave a piece, of at most so many bytes.
pub record IsGiven (most : ℕ) (before after : Option (List ℕ)) (piece : List ℕ) : Type 0 where
  pub consumed : Consumes before after piece
  pub few : length piece ≤ most

-- What one read of at most so many bytes comes to: the text has ended; or a piece has come, and more is wanted, or the
-- text is answered, or the tables are at fault, or the text is too long, or memory ran out; or the read failed.
abbrev pub IsReadInto : ℕ → Held → Option (List ℕ) → Option (List ℕ) → Held → Result (Option Need) TextFault → Type 0
IsReadInto most f before after g (Ok None) = IsAtEnd after × Consumes before after [] × (g ≡ f)
IsReadInto most f before after g (Ok (Some More)) = (piece : List ℕ) × IsGiven most before after piece
    × (0 < length piece) × IsOnward f piece g
IsReadInto most f before after g (Ok (Some (Settled outcome answer))) = (piece : List ℕ)
    × IsGiven most before after piece × IsSettledBy f piece outcome answer.items
IsReadInto most f before after g (Err FaultyTables) = (piece : List ℕ) × IsGiven most before after piece
    × ((more : List ℕ) → IsRestOf f (piece ++ more) faulty)
IsReadInto most f before after g (Err TooLong) = (piece : List ℕ) × IsGiven most before after piece
    × (2 ^ 64 ≤ seen f + length piece)
IsReadInto most f before after g (Err OutOfMemory) = (piece : List ℕ) × IsGiven most before after piece
IsReadInto most f before after g (Err Read) = Consumes before after []
IsReadInto most f before after g (Err _) = ⊥

-- What a reader gave so far has come to a feed of a set, which says of the rest what the set says of the whole, in a
-- form; and the text isn't answered by it.
pub record IsReadSoFar (form : AnswerForm) (s : TableSet) (given now : Option (List ℕ)) (f : Held) : Type 0 where
  pub taken : List ℕ
  pub consumed : Consumes given now taken
  pub onward : Onward false (scan_part_of s) (machine_of s) (begun taken) f.progress
  pub undecided : IsUndecided (scanner_in (scan_part_of s)) f.progress.place
  pub says : (more : List ℕ) (v : Verdict) → IsRestOf f more v → IsVerdict s (taken ++ more) v
  pub counted : seen f ≡ length taken
  pub countable : seen f < 2 ^ 64
  pub set : f.set ≡ s
  pub same_form : f.form ≡ form
  pub goes_on : f.over ≡ false
