-- What is written if a text is parsed with `--places`.
use Rattle.std.specs.Prelude.{◌≡◌, ℕ, List, Option}
use Rattle.ly_base.specs.Limits.{version_2}
use Rattle.ly_base.specs.declared.version.Version.TheVariants.{V2}
use Rattle.ly_drive.specs.Answering.{IsDriven}
use Rattle.ly_feed.specs.declared.outcome.Outcome.{Outcome}
use Rattle.ly_generate.specs.Generated.{IsGenerated}
use Rattle.ly_places.specs.Placing.{IsPlacedFor, IsPlacingBegun}
use Rattle.ly_tables.specs.TableSet.{TableSet}
use Rattle.lytab.specs.Completion.{completion_of_outcome}
use Rattle.lytab.specs.declared.completion.Completion.{Completion}

-- The output with spans that the set of a table file gives for the text was written.
abbrev pub IsPlacedByTables : List ℕ → Option (List ℕ) → Option (List ℕ) → Option (List ℕ) → Completion → Type 0
IsPlacedByTables tables given before after c = (o : Outcome) × (s : TableSet) × IsDriven tables s
    × IsPlacedFor s given before after o × (c ≡ completion_of_outcome o)

-- this many bytes of it were written, and more should follow
abbrev pub IsPlacingBegunByTables : List ℕ → Option (List ℕ) → Option (List ℕ) → Option (List ℕ) → Type 0
IsPlacingBegunByTables tables given before after = (written : ℕ) × (s : TableSet) × IsDriven tables s
    × IsPlacingBegun s given before after written

-- The output with spans that a lex file and a yacc file define for the text was written.
abbrev pub IsPlacedByFiles : List ℕ → List ℕ → Option (List ℕ) → Option (List ℕ) → Option (List ℕ) → Completion
    → Type 0
IsPlacedByFiles lex yacc given before after c = (o : Outcome) × (s : TableSet) × IsGenerated V2 version_2 lex yacc s
    × IsPlacedFor s given before after o × (c ≡ completion_of_outcome o)

-- this many bytes of it were written, and more should follow
abbrev pub IsPlacingBegunByFiles : List ℕ → List ℕ → Option (List ℕ) → Option (List ℕ) → Option (List ℕ) → Type 0
IsPlacingBegunByFiles lex yacc given before after = (written : ℕ) × (s : TableSet)
    × IsGenerated V2 version_2 lex yacc s × IsPlacingBegun s given before after written
