-- What is written if the tokens of a text are printed with the scanner of a table file.
use Rattle.std.specs.Prelude.{◌≡◌, ◌≢◌, ◌<◌, ℕ, List, Option, length, take}
use Rattle.std.specs.Io.KnownBytes.{Appends}
use Rattle.ly_base.specs.declared.lexeme.End.{End}
use Rattle.ly_drive.specs.Answering.{IsDriven}
use Rattle.ly_drive.specs.TableTokens.{HasBadCut, IsListedFor}
use Rattle.ly_listing.specs.Listings.{end_of}
use Rattle.ly_listing.specs.declared.token_end.TokenEnd.{TokenEnd}
use Rattle.ly_print.specs.declared.answer_form.AnswerForm.{AnswerForm}
use Rattle.ly_tables.specs.Refusal.{IsRefusedAs}
use Rattle.ly_tables.specs.TableSet.{TableSet}
use Rattle.ly_tables.specs.declared.fault.TableFault.TheVariants as file
use Rattle.lytab.specs.Completion.{completion_of_tokens}
use Rattle.lytab.specs.declared.completion.Completion.{Completion}
use Rattle.lytab.specs.declared.failure.Failure.{Failure}
use Rattle.lytab.specs.declared.failure.Failure.TheVariants.{CannotRead, CannotWrite, FaultyTables, OutOfMemory, Tables}

-- The tokens that the set of a table file finds in the text of a reader were written in a form.
abbrev pub AreTableTokens :
    AnswerForm → List ℕ → Option (List ℕ) → Option (List ℕ) → Option (List ℕ) → Completion → Type 0
AreTableTokens form tables given before after c = (end : TokenEnd) × (s : TableSet) × IsDriven tables s
    × (answer : List ℕ) × IsListedFor form s given (end_of end) answer × Appends before after answer
    × (c ≡ completion_of_tokens end)

-- this many bytes of them were written, and more should follow
abbrev pub AreTableTokensBegun :
    AnswerForm → List ℕ → Option (List ℕ) → Option (List ℕ) → Option (List ℕ) → Type 0
AreTableTokensBegun form tables given before after = (written : ℕ) × (s : TableSet) × IsDriven tables s
    × (end : End) × (answer : List ℕ) × IsListedFor form s given end answer × (written < length answer)
    × Appends before after (take written answer)

-- what a failure implies for a table file whose scanner reads what a reader returned
abbrev pub IsRefusalOfScanner : List ℕ → Option (List ℕ) → Failure → Type 0
IsRefusalOfScanner tables given (Tables fault) = (fault ≢ file.OutOfMemory) × IsRefusedAs tables fault
IsRefusalOfScanner tables given FaultyTables = (s : TableSet) × IsDriven tables s × HasBadCut s given
IsRefusalOfScanner tables given (CannotRead path) = Unit {0}
IsRefusalOfScanner tables given (CannotWrite path) = Unit {0}
IsRefusalOfScanner tables given OutOfMemory = Unit {0}
IsRefusalOfScanner tables given _ = ⊥
