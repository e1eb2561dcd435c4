-- What the commands that parse a text have written.
use Rattle.std.specs.Prelude.{◌≡◌, ◌<◌, ℕ, List, None, Option, Some, length, take}
use Rattle.std.specs.Io.KnownBytes.{Appends}
use Rattle.ly_base.specs.Limits.{version_2}
use Rattle.ly_base.specs.declared.lexeme.End.{End}
use Rattle.ly_base.specs.declared.version.Version.TheVariants.{V2}
use Rattle.ly_drive.specs.Answering.{IsAnsweredBy, IsBegunBy, IsDriven}
use Rattle.ly_files.specs.Folder.{Files, named}
use Rattle.ly_feed.specs.declared.outcome.Outcome.{Outcome}
use Rattle.ly_generate.specs.Generated.{IsGenerated}
use Rattle.ly_print.specs.declared.answer_form.AnswerForm.{AnswerForm}
use Rattle.ly_tables.specs.TableSet.{TableSet}
use Rattle.ly_tokens.specs.Answers.{Answers}
use Rattle.ly_listing.specs.Listings.{end_of}
use Rattle.ly_listing.specs.declared.token_end.TokenEnd.{TokenEnd}
use Rattle.lytab.specs.Completion.{completion_of_outcome, completion_of_tokens}
use Rattle.lytab.specs.Lines.{AreLinesAnsweredBy}
use Rattle.lytab.specs.Placing.{IsPlacedByFiles, IsPlacedByTables, IsPlacingBegunByFiles, IsPlacingBegunByTables}
use Rattle.lytab.specs.TableTokens.{AreTableTokens, AreTableTokensBegun}
use Rattle.lytab.specs.declared.answering.Rules.{Rules}
use Rattle.lytab.specs.declared.answering.Rules.TheVariants as rules
use Rattle.lytab.specs.declared.completion.Completion.{Completion}

-- the text that is parsed, if it is known: without a path it is what standard input had, and else that of a file
abbrev pub text_from : Option (List ℕ) → Option Files → Option (List ℕ) → Option (List ℕ)
text_from None files given = given
text_from (Some path) files given = named files path

-- The tokens that a lex file defines for the text of a reader were written in a form.
abbrev pub AreTokensPrinted :
    AnswerForm → List ℕ → Option (List ℕ) → Option (List ℕ) → Option (List ℕ) → Completion → Type 0
AreTokensPrinted form lex given before after c = (end : TokenEnd) × (answer : List ℕ)
    × Answers form version_2 lex given (end_of end) answer × Appends before after answer
    × (c ≡ completion_of_tokens end)

-- this many bytes of them were written, and more should follow
abbrev pub AreTokensBegun : AnswerForm → List ℕ → Option (List ℕ) → Option (List ℕ) → Option (List ℕ) → Type 0
AreTokensBegun form lex given before after = (written : ℕ) × (end : End) × (answer : List ℕ)
    × Answers form version_2 lex given end answer × (written < length answer)
    × Appends before after (take written answer)

-- The output that the set of a table file gives for the text was written in a form.
abbrev pub IsAnsweredByTables :
    AnswerForm → List ℕ → Option (List ℕ) → Option (List ℕ) → Option (List ℕ) → Completion → Type 0
IsAnsweredByTables form tables given before after c = (o : Outcome) × (s : TableSet) × IsDriven tables s
    × IsAnsweredBy form s given before after o × (c ≡ completion_of_outcome o)

abbrev pub IsBegunByTables : AnswerForm → List ℕ → Option (List ℕ) → Option (List ℕ) → Option (List ℕ) → Type 0
IsBegunByTables form tables given before after = (written : ℕ) × (s : TableSet) × IsDriven tables s
    × IsBegunBy form s given before after written

-- The output that a lex file and a yacc file define for the text was written in a form.
abbrev pub IsAnsweredByFiles : AnswerForm → List ℕ → List ℕ → Option (List ℕ) → Option (List ℕ) → Option (List ℕ)
    → Completion → Type 0
IsAnsweredByFiles form lex yacc given before after c = (o : Outcome) × (s : TableSet)
    × IsGenerated V2 version_2 lex yacc s × IsAnsweredBy form s given before after o × (c ≡ completion_of_outcome o)

abbrev pub IsBegunByFiles : AnswerForm → List ℕ → List ℕ → Option (List ℕ) → Option (List ℕ) → Option (List ℕ)
    → Type 0
IsBegunByFiles form lex yacc given before after = (written : ℕ) × (s : TableSet) × IsGenerated V2 version_2 lex yacc s
    × IsBegunBy form s given before after written

-- The whole output that these rules give for the text was written, and the command has this result.
abbrev pub IsParsedBy : Rules → Option (List ℕ) → Option (List ℕ) → Option (List ℕ) → Completion → Type 0
IsParsedBy (rules.Tokens lex form) given before after c = AreTokensPrinted form lex.now given before after c
IsParsedBy (rules.TableTokens tables form) given before after c =
    AreTableTokens form tables.now given before after c
IsParsedBy (rules.Tables tables form) given before after c = IsAnsweredByTables form tables.now given before after c
IsParsedBy (rules.Lines tables form) given before after c = AreLinesAnsweredBy form tables.now given before after c
IsParsedBy (rules.TablesPlaced tables) given before after c = IsPlacedByTables tables.now given before after c
IsParsedBy (rules.BothPlaced lex yacc) given before after c =
    IsPlacedByFiles lex.now yacc.now given before after c
IsParsedBy (rules.Both lex yacc form) given before after c =
    IsAnsweredByFiles form lex.now yacc.now given before after c

-- the text is parsed as one text
abbrev pub IsOneText : Rules → Type 0
IsOneText (rules.Lines tables form) = ⊥
IsOneText _ = Unit {0}

-- This many bytes of it were written, and more should follow. For `--lines` the definitions are in `Lines`.
abbrev pub IsAnswerBegun : Rules → Option (List ℕ) → Option (List ℕ) → Option (List ℕ) → Type 0
IsAnswerBegun (rules.Tokens lex form) given before after = AreTokensBegun form lex.now given before after
IsAnswerBegun (rules.TableTokens tables form) given before after =
    AreTableTokensBegun form tables.now given before after
IsAnswerBegun (rules.Tables tables form) given before after = IsBegunByTables form tables.now given before after
IsAnswerBegun (rules.Lines tables form) given before after = Unit {0}
IsAnswerBegun (rules.TablesPlaced tables) given before after = IsPlacingBegunByTables tables.now given before after
IsAnswerBegun (rules.BothPlaced lex yacc) given before after =
    IsPlacingBegunByFiles lex.now yacc.now given before after
IsAnswerBegun (rules.Both lex yacc form) given before after =
    IsBegunByFiles form lex.now yacc.now given before after
