-- Text that is written in chunks.
use Rattle.std.specs.Prelude.{◌≡◌, ℕ, ◌<◌, ◌≤◌, ◌+◌, List, ◌++◌, length, take, drop, Option, Result, MatchResult}
use Rattle.std.specs.Io.KnownBytes.{Appends}
use Rattle.ly_print.specs.declared.whole.WriteFault.{WriteFault}

-- the number of bytes that were written, and the bytes after them that are buffered
pub record Outgoing : Type 0 where
  pub sent : ℕ
  pub held : List ℕ

-- the number of bytes written and buffered
abbrev pub bytes_of : Outgoing → ℕ
bytes_of o = o.sent + length o.held

-- A writer held `before`, and a text is being written to it. `now` is that with the bytes of the text that were
-- written.
pub record IsUnderway (before now : Option (List ℕ)) (o : Outgoing) (text : List ℕ) : Type 0 where
  pub within : o.sent ≤ length text
  pub went_out : Appends before now (take o.sent text)
  pub held_back : drop o.sent text ≡ o.held

-- only a prefix of a text was written to a writer that held `before`
pub record IsCutShort (before now : Option (List ℕ)) (written : ℕ) (text : List ℕ) : Type 0 where
  pub within : written < length text
  pub went_out : Appends before now (take written text)

-- Bytes are appended to a text that is being written. Either the longer text is being written, or the writer failed and
-- only a prefix was written.
abbrev pub IsAppended : Outgoing → Outgoing → Option (List ℕ) → Option (List ℕ) → List ℕ → Result (Unit {0}) WriteFault
    → Type 0
IsAppended old new held_before held_after bytes result =
    (before : Option (List ℕ)) (text : List ℕ) → IsUnderway before held_before old text → MatchResult result
    (λ _. IsUnderway before held_after new (text ++ bytes))
    (λ fault. IsCutShort before held_after fault.written (text ++ bytes))
