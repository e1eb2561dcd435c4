-- Spans of a text, and how they are printed as JSON.
use Rattle.std.specs.Prelude.{◌≤◌, ℕ, ◌+◌, ◌-◌, List, ◌++◌, codes, drop, length, take}
use Rattle.ly_base.specs.Lexed.{Token}
use Rattle.ly_base.specs.Location.{column_behind, line_behind}
use Rattle.ly_spans.specs.declared.span.Span.{Span}
use Rattle.ly_print.specs.Json.{json_located}

-- the span of a token
abbrev pub span_of : {T : Type 0} → Token T → Span
span_of t = record { start = t.at; end = t.at + length t.bytes }

-- the empty span at an offset
abbrev pub empty_at : ℕ → Span
empty_at byte = record { start = byte; end = byte }

-- the bytes of a text in a span
abbrev pub bytes_at : List ℕ → Span → List ℕ
bytes_at text e = take (e.end - e.start) (drop e.start text)

-- the span is within a text of this many bytes
pub record IsWithin (count : ℕ) (e : Span) : Type 0 where
  pub forward : e.start ≤ e.end
  pub inside : e.end ≤ count

-- an offset of a text, with its line and its column, as `[4,1,5]`
abbrev pub json_location : List ℕ → ℕ → List ℕ
json_location text byte =
    json_located byte (line_behind (take byte text)) (column_behind (take byte text))

-- the start and end of a span, as members of an object after another member
abbrev pub json_span : List ℕ → Span → List ℕ
json_span text e = codes ",\"start\":" ++ (json_location text e.start ++ (codes ",\"end\":"
    ++ json_location text e.end))
