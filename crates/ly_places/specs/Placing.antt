-- The result written, with spans, for the text from a reader.
use Rattle.std.specs.Prelude.{◌≡◌, ◌<◌, ℕ, List, length, take, IfSome, Option}
use Rattle.std.specs.Io.KnownBytes.{Appends}
use Rattle.ly_feed.specs.declared.outcome.Outcome.{Outcome}
use Rattle.ly_places.specs.PlacedAnswer.{PlacedAnswer}
use Rattle.ly_tables.specs.TableSet.{TableSet}

-- The text from the reader, if its bytes are known, has this outcome by the set, and its whole result was written.
abbrev pub IsPlacedFor : TableSet → Option (List ℕ) → Option (List ℕ) → Option (List ℕ) → Outcome → Type 0
IsPlacedFor s given before after outcome = (text : List ℕ) × (answer : List ℕ)
    × IfSome given (λ bytes. text ≡ bytes) × PlacedAnswer s text outcome answer × Appends before after answer

-- this many bytes of its result were written, but not all
abbrev pub IsPlacingBegun : TableSet → Option (List ℕ) → Option (List ℕ) → Option (List ℕ) → ℕ → Type 0
IsPlacingBegun s given before after written = (text : List ℕ) × (answer : List ℕ) × (outcome : Outcome)
    × IfSome given (λ bytes. text ≡ bytes) × PlacedAnswer s text outcome answer × (written < length answer)
    × Appends before after (take written answer)
