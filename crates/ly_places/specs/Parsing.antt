-- The parts of a text's tree, or the error in the text.
use Rattle.std.specs.Prelude.{◌≡◌, ℕ, List}
use Rattle.ly_feed.specs.SyntaxError as syntax_error
use Rattle.ly_feed.specs.declared.text_fault.TextFault.{TextFault}
use Rattle.ly_feed.specs.declared.text_fault.TextFault.TheVariants.{FaultyTables, OutOfMemory}
use Rattle.ly_places.specs.Parts.{parts_of}
use Rattle.ly_places.specs.Placed.{Placed}
use Rattle.ly_places.specs.PlacedAnswer.{accepted, verdict_of, PlacedVerdict}
use Rattle.ly_places.specs.declared.parsing.Parsed.{Parsed}
use Rattle.ly_places.specs.declared.parsing.Parsed.TheVariants.{Refused, Tree}

-- the parts are those of the text's term, or the error is that of the verdict
abbrev pub IsParsedAs : List ℕ → PlacedVerdict → Parsed → Type 0
IsParsedAs text v (Tree parts) = (t : Placed) × (v ≡ accepted t) × (parts.items ≡ parts_of t)
IsParsedAs text v (Refused f) = verdict_of text v ≡ syntax_error.verdict_of f

-- the tables are faulty for the text, or memory ran out
abbrev pub IsOfParsing : TextFault → Type 0
IsOfParsing FaultyTables = Unit {0}
IsOfParsing OutOfMemory = Unit {0}
IsOfParsing _ = ⊥
