-- The state of a feed of a text in chunks, and the effect of its calls.
use Rattle.std.specs.Prelude.{◌≡◌, ◌≢◌, ◌<◌, ◌≤◌, ◌^◌, ℕ, ◌+◌, List, [], ◌++◌, Bool, true, false, length}
use Rattle.std.specs.Prelude.{Result, Ok, Err}
use Rattle.std.specs.Prelude.{if◌then◌else◌}
use Rattle.std.specs.Global.{Global}
use Rattle.std.specs.declared.vec.Vec.{Vec}
use Rattle.ly_feed.specs.Onward.{Onward}
use Rattle.ly_feed.specs.ScanPart.{scan_part_of, scanner_in}
use Rattle.ly_feed.specs.TableAnswer.{Progress, IsRest, begun, with_more}
use Rattle.ly_feed.specs.Verdict.{Verdict, IsOutcome, faulty, written_in}
use Rattle.ly_feed.specs.Vocabularies.{vocabulary_of}
use Rattle.ly_feed.specs.declared.feed_fault.FeedFault.{FeedFault}
use Rattle.ly_feed.specs.declared.feed_fault.FeedFault.TheVariants.{OutOfMemory, Over, FaultyTables, TooLong}
use Rattle.ly_feed.specs.declared.need.Need.{Need}
use Rattle.ly_feed.specs.declared.need.Need.TheVariants.{More, Settled}
use Rattle.ly_feed.specs.declared.outcome.Outcome.{Outcome}
use Rattle.ly_feed.specs.declared.outcome.Outcome.TheVariants.{Tree}
use Rattle.ly_print.specs.declared.answer_form.AnswerForm.{AnswerForm}
use Rattle.ly_scan.specs.Pieces.{IsUndecided}
use Rattle.ly_tables.specs.TableSet.{TableSet, machine_of}

-- The table set, the form of the result, the progress of the run, whose remaining bytes are those held, and whether the
-- feed has ended.
pub record Held : Type 0 where
  pub set : TableSet
  pub form : AnswerForm
  pub progress : Progress
  pub over : Bool

-- no bytes have come yet
abbrev pub nothing_read : AnswerForm → TableSet → Held
nothing_read form s = record { set = s; form = form; progress = begun []; over = false }

-- the number of bytes held; 0 once the feed has ended
abbrev pub bytes_held : Held → ℕ
bytes_held f = if f.over then 0 else length f.progress.place.rest

-- the number of bytes that have come
abbrev pub seen : Held → ℕ
seen f = f.progress.place.at + length f.progress.place.rest

-- the verdict of the tables, continuing from the bytes held, if these bytes follow and the text then ends
abbrev pub IsRestOf : Held → List ℕ → Verdict → Type 0
IsRestOf f more v = IsRest (scan_part_of f.set) (machine_of f.set) (with_more f.progress more) v

-- the feed has ended
pub record IsOver (f g : Held) : Type 0 where
  pub set : g.set ≡ f.set
  pub form : g.form ≡ f.form
  pub over : g.over ≡ true

-- After a chunk the result isn't known yet: all decided matches were skipped, or their tokens read, the next one isn't
-- decided, and exactly its bytes are held.
pub record IsOnward (f : Held) (piece : List ℕ) (g : Held) : Type 0 where
  pub onward : Onward false (scan_part_of f.set) (machine_of f.set) (with_more f.progress piece) g.progress
  pub undecided : IsUndecided (scanner_in (scan_part_of f.set)) g.progress.place
  pub same_rest : (more : List ℕ) (v : Verdict) → (IsRestOf f (piece ++ more) v → IsRestOf g more v)
      × (IsRestOf g more v → IsRestOf f (piece ++ more) v)
  pub set : g.set ≡ f.set
  pub form : g.form ≡ f.form
  pub goes_on : g.over ≡ false
  pub counted : seen g ≡ seen f + length piece
  pub countable : seen f + length piece < 2 ^ 64

-- The text has this outcome and these bytes as its result, whatever follows the chunk. Never a tree, which needs the
-- end of the text.
abbrev pub IsSettledBy : Held → List ℕ → Outcome → List ℕ → Type 0
IsSettledBy f piece outcome answer = (v : Verdict) × ((more : List ℕ) → IsRestOf f (piece ++ more) v)
    × IsOutcome v outcome × (outcome ≢ Tree) × (answer ≡ written_in f.form (vocabulary_of f.set) v)

-- The effect of a chunk on a feed that hasn't ended, by the result. Out of memory means nothing for the text.
abbrev pub TakesPiece : Held → List ℕ → Held → Result Need FeedFault → Type 0
TakesPiece f piece g (Ok More) = IsOnward f piece g
TakesPiece f piece g (Ok (Settled outcome answer)) = IsOver f g × (seen f + length piece < 2 ^ 64)
    × IsSettledBy f piece outcome answer.items
TakesPiece f piece g (Err FaultyTables) = IsOver f g × (seen f + length piece < 2 ^ 64)
    × ((more : List ℕ) → IsRestOf f (piece ++ more) faulty)
TakesPiece f piece g (Err TooLong) = IsOver f g × (2 ^ 64 ≤ seen f + length piece)
TakesPiece f piece g (Err OutOfMemory) = IsOver f g
TakesPiece f piece g (Err Over) = ⊥

-- The effect of a call with a chunk: a feed that has ended is unchanged and reports that; any other takes the chunk.
pub record IsPiece (f : Held) (piece : List ℕ) (g : Held) (answer : Result Need FeedFault) : Type 0 where
  pub after_end : f.over ≡ true → (answer ≡ Err Over) × (g ≡ f)
  pub before_end : f.over ≡ false → TakesPiece f piece g answer

-- the text has this outcome and these bytes as its result, if it ends after the bytes held
abbrev pub IsAnswerOf : Held → Outcome → List ℕ → Type 0
IsAnswerOf f outcome answer = (v : Verdict) × IsRestOf f [] v × IsOutcome v outcome
    × (answer ≡ written_in f.form (vocabulary_of f.set) v)

-- The result of a feed that hasn't ended at the end of the text.
abbrev pub Ends : Held → Result (Outcome × Vec ℕ Global) FeedFault → Type 0
Ends f (Ok told) = IsAnswerOf f told.0 told.1.items
Ends f (Err FaultyTables) = IsRestOf f [] faulty
Ends f (Err OutOfMemory) = Unit {0}
Ends f (Err TooLong) = ⊥
Ends f (Err Over) = ⊥

-- The effect of the last call, likewise.
pub record IsFinish (f g : Held) (answer : Result (Outcome × Vec ℕ Global) FeedFault) : Type 0 where
  pub after_end : f.over ≡ true → (answer ≡ Err Over) × (g ≡ f)
  pub before_end : f.over ≡ false → IsOver f g × Ends f answer
