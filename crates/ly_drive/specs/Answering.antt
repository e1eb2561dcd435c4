-- The result written for the text from a reader.
use Rattle.std.specs.Prelude.{◌≡◌, ◌<◌, ◌≤◌, ◌^◌, ℕ, List, ◌++◌, length, take, false, IfSome, Option}
use Rattle.std.specs.Io.KnownBytes.{Appends, Consumes}
use Rattle.ly_base.specs.declared.version.Version.{Version}
use Rattle.ly_feed.specs.Onward.{Onward}
use Rattle.ly_feed.specs.ScanPart.{scan_part_of, scanner_in}
use Rattle.ly_feed.specs.TableAnswer.{IsVerdict, Progress, TableAnswer, begun}
use Rattle.ly_feed.specs.Verdict.{faulty}
use Rattle.ly_feed.specs.declared.outcome.Outcome.{Outcome}
use Rattle.ly_pack.specs.Steady.{IsSteady}
use Rattle.ly_print.specs.declared.answer_form.AnswerForm.{AnswerForm}
use Rattle.ly_scan.specs.Pieces.{IsUndecided}
use Rattle.ly_tables.specs.TableSet.{TableSet, machine_of}
use Rattle.ly_tables.specs.TableText.{TableText}

-- The text from the reader, if its bytes are known, has this outcome by the set, and its whole result was written in a
-- form.
abbrev pub IsAnsweredBy :
    AnswerForm → TableSet → Option (List ℕ) → Option (List ℕ) → Option (List ℕ) → Outcome → Type 0
IsAnsweredBy form s given before after outcome = (text : List ℕ) × (answer : List ℕ)
    × IfSome given (λ bytes. text ≡ bytes) × TableAnswer form s text outcome answer × Appends before after answer

-- this many bytes of its result were written, but not all
abbrev pub IsBegunBy : AnswerForm → TableSet → Option (List ℕ) → Option (List ℕ) → Option (List ℕ) → ℕ → Type 0
IsBegunBy form s given before after written = (text : List ℕ) × (answer : List ℕ) × (outcome : Outcome)
    × IfSome given (λ bytes. text ≡ bytes) × TableAnswer form s text outcome answer × (written < length answer)
    × Appends before after (take written answer)

-- the set is faulty for the text from the reader
abbrev pub IsFaultyOn : TableSet → Option (List ℕ) → Type 0
IsFaultyOn s given = (text : List ℕ) × IfSome given (λ bytes. text ≡ bytes) × IsVerdict s text faulty

-- more bytes were read than a text may have
abbrev pub IsTooLong : Option (List ℕ) → Type 0
IsTooLong given = IfSome given (λ bytes. 2 ^ 64 ≤ length bytes)

-- The result isn't known after these bytes of a text: all matches that they decide were skipped, or their tokens read,
-- and the next one isn't decided.
abbrev pub IsOpenAfter : TableSet → List ℕ → Type 0
IsOpenAfter s bytes = (w : Progress) × Onward false (scan_part_of s) (machine_of s) (begun bytes) w
    × IsUndecided (scanner_in (scan_part_of s)) w.place

-- No more was read than the result needs: bytes after which it isn't known, and at most this many after them.
abbrev pub IsReadAsNeeded : ℕ → TableSet → Option (List ℕ) → Option (List ℕ) → Type 0
IsReadAsNeeded most s before after = (open_bytes : List ℕ) × (last : List ℕ)
    × Consumes before after (open_bytes ++ last) × IsOpenAfter s open_bytes × (length last ≤ most)

-- Bytes were read after which the result isn't known. So if the next read fails, it was necessary.
abbrev pub NeedsMoreInput : TableSet → Option (List ℕ) → Option (List ℕ) → Type 0
NeedsMoreInput s before after = (bytes : List ℕ) × Consumes before after bytes × IsOpenAfter s bytes

-- the bytes of a table file, of any version, spell the set, whose parser's runs end
abbrev pub IsDriven : List ℕ → TableSet → Type 0
IsDriven tables s = (v : Version) × TableText tables v s × IsSteady (machine_of s)
