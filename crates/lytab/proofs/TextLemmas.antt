-- What is written for a text that is known is written for some text.
use Rattle.std.proofs.Common.{◌≡◌, ◌⊎◌, IfErr, IfOk, inl, inr, List, None, Option, refl, Result, Some, subst, ℕ}
use Rattle.ly_generate.proofs.GenFaultLemmas.{err_weaker, ok_weaker}
use Rattle.ly_drive.specs.Answering.{IsAnsweredBy, IsBegunBy, IsReadAsNeeded}
use Rattle.ly_drive.specs.Lines.{AreLinesAnswered, AreLinesStopped}
use Rattle.ly_drive.specs.TableTokens.{IsListedFor}
use Rattle.ly_drive.specs.declared.lines_outcome.LinesOutcome.{LinesOutcome}
use Rattle.ly_base.specs.Limits.{Sizes, version_2}
use Rattle.ly_base.specs.declared.version.Version.TheVariants.{V2}
use Rattle.ly_base.specs.declared.lexeme.End.{End}
use Rattle.ly_feed.specs.declared.outcome.Outcome.{Outcome}
use Rattle.ly_feed.specs.declared.text_fault.TextFault.{TextFault}
use Rattle.ly_feed.specs.declared.text_fault.TextFault.TheVariants as text
use Rattle.ly_listing.specs.Listings.{end_of}
use Rattle.ly_places.specs.Placing.{IsPlacedFor, IsPlacingBegun}
use Rattle.ly_print.specs.declared.answer_form.AnswerForm.{AnswerForm}
use Rattle.ly_generate.specs.Generated.{IsGenerated}
use Rattle.ly_tables.specs.TableSet.{TableSet}
use Rattle.ly_tokens.specs.Answers.{Answers}
use Rattle.lytab.specs.Answering.{IsParsedBy, IsAnswerBegun}
use Rattle.lytab.proofs.CarriedLemmas.{fails_lines}
use Rattle.lytab.specs.Failure.{IsOfWriter, failure_of_file}
use Rattle.lytab.specs.Lines.{AreLinesFailed, AreLinesStoppedBy, IsFaultMet}
use Rattle.lytab.specs.Reading.{HasReadFailed, IsReadByFiles}
use Rattle.lytab.specs.Refusal.{IsRefusalOf, IsRefusalOfFiles, IsRefusalOfTables}
use Rattle.lytab.specs.TableTokens.{IsRefusalOfScanner}
use Rattle.lytab.specs.declared.answering.Rules.{Rules}
use Rattle.lytab.specs.declared.answering.Rules.TheVariants as rules
use Rattle.lytab.specs.declared.completion.Completion.{Completion}
use Rattle.lytab.specs.declared.failure.Failure.{Failure}
use Rattle.lytab.specs.declared.failure.Failure.TheVariants.{CannotRead, CannotWrite, FaultyTables, OutOfMemory}
use Rattle.lytab.specs.declared.failure.Failure.TheVariants.{Refused, Tables, TooLong, Unexpected, Unreadable}
use Rattle.ly_files.specs.declared.file_fault.FileFault.{FileFault}
use Rattle.ly_files.specs.Folder.{Files, IsOpened, named}

answers_of_some : {form : AnswerForm} {limits : Sizes} {lex : List ℕ} {given : Option (List ℕ)} {e : End}
    {answer : List ℕ}
    → Answers form limits lex given e answer → Answers form limits lex None e answer
answers_of_some a = record {
  file = a.file;
  spelled = a.spelled;
  light = a.light;
  within = a.within;
  few = a.few;
  text = a.text;
  is_text = tt;
  is_answer = a.is_answer;
}

answered_of_some : (form : AnswerForm) (s : TableSet) (given before after : Option (List ℕ)) (o : Outcome)
    → IsAnsweredBy form s given before after o → IsAnsweredBy form s None before after o
answered_of_some form s given before after o h = (h.0, h.1, tt, h.3, h.4)

begun_of_some : (form : AnswerForm) (s : TableSet) (given before after : Option (List ℕ)) (written : ℕ)
    → IsBegunBy form s given before after written → IsBegunBy form s None before after written
begun_of_some form s given before after written h = (h.0, h.1, h.2, tt, h.4, h.5, h.6)

listed_of_some : (form : AnswerForm) (s : TableSet) (given : Option (List ℕ)) (e : End) (answer : List ℕ)
    → IsListedFor form s given e answer → IsListedFor form s None e answer
listed_of_some form s given e answer h = (h.0, tt, h.2)

placed_of_some : (s : TableSet) (given before after : Option (List ℕ)) (o : Outcome)
    → IsPlacedFor s given before after o → IsPlacedFor s None before after o
placed_of_some s given before after o h = (h.0, h.1, tt, h.3, h.4)

placing_of_some : (s : TableSet) (given before after : Option (List ℕ)) (written : ℕ)
    → IsPlacingBegun s given before after written → IsPlacingBegun s None before after written
placing_of_some s given before after written h = (h.0, h.1, h.2, tt, h.4, h.5, h.6)

lines_of_some : (form : AnswerForm) (s : TableSet) (given before after : Option (List ℕ)) (o : LinesOutcome)
    → AreLinesAnswered form s given before after o → AreLinesAnswered form s None before after o
lines_of_some form s given before after o h = (h.0, h.1, tt, h.3, h.4)

stopped_of_some : (form : AnswerForm) (s : TableSet) (given before after : Option (List ℕ)) (fault : TextFault)
    → AreLinesStopped form s given before after fault → AreLinesStopped form s None before after fault
stopped_of_some form s given before after fault h = (h.0, tt, h.2)

met_of_some : (form : AnswerForm) (tables : List ℕ) (given before after : Option (List ℕ)) (fault : TextFault)
    → IsFaultMet form tables given before after fault → IsFaultMet form tables None before after fault
met_of_some form tables given before after fault h =
    (h.0, h.1, stopped_of_some form h.0 given before after fault h.2)

-- or nothing was written
kept_or : {A B C : Type 0} → (B → C) → A ⊎ B → A ⊎ C
kept_or f (inl same) = inl same
kept_or f (inr h) = inr (f h)

failed_of_some : (form : AnswerForm) (tables : List ℕ) (given before after : Option (List ℕ)) (f : Failure)
    → AreLinesFailed form tables given before after f → AreLinesFailed form tables None before after f
failed_of_some form tables given before after (Tables fault) h = h
failed_of_some form tables given before after FaultyTables h =
    met_of_some form tables given before after text.FaultyTables h
failed_of_some form tables given before after TooLong h =
    (tt, met_of_some form tables given before after text.TooLong h.1)
failed_of_some form tables given before after (CannotRead path) h =
    kept_or (met_of_some form tables given before after text.Read) h
failed_of_some form tables given before after (CannotWrite path) h =
    kept_or (λ met. (met.0, met_of_some form tables given before after (text.Write met.0) met.1)) h
failed_of_some form tables given before after OutOfMemory h = kept_or
    (λ stopped s driven. stopped_of_some form s given before after text.OutOfMemory (stopped s driven)) h
failed_of_some form tables given before after (Unreadable path reason) h = h
failed_of_some form tables given before after (Refused fault line) h = h
failed_of_some form tables given before after (Unexpected counts wanted) h = h

some_stopped : (r : Rules) (given before after : Option (List ℕ)) (f : Failure)
    → AreLinesStoppedBy r given before after f → AreLinesStoppedBy r None before after f
some_stopped (rules.Tokens lex form) given before after f h = h
some_stopped (rules.TableTokens tables form) given before after f h = h
some_stopped (rules.Tables tables form) given before after f h = h
some_stopped (rules.Lines tables form) given before after f h =
    failed_of_some form tables.now given before after f h
some_stopped (rules.TablesPlaced tables) given before after f h = h
some_stopped (rules.BothPlaced lex yacc) given before after f h = h
some_stopped (rules.Both lex yacc form) given before after f h = h

some_answered : (r : Rules) (given before after : Option (List ℕ)) (c : Completion)
    → IsParsedBy r given before after c → IsParsedBy r None before after c
some_answered (rules.Tokens lex form) given before after c h = (h.0, h.1, answers_of_some h.2, h.3, h.4)
some_answered (rules.TableTokens tables form) given before after c h =
    (h.0, h.1, h.2, h.3, listed_of_some form h.1 given (end_of h.0) h.3 h.4, h.5, h.6)
some_answered (rules.Tables tables form) given before after c h =
    (h.0, h.1, h.2, answered_of_some form h.1 given before after h.0 h.3, h.4)
some_answered (rules.Lines tables form) given before after c h =
    (h.0, h.1, h.2, lines_of_some form h.1 given before after h.0 h.3, h.4)
some_answered (rules.TablesPlaced tables) given before after c h =
    (h.0, h.1, h.2, placed_of_some h.1 given before after h.0 h.3, h.4)
some_answered (rules.BothPlaced lex yacc) given before after c h =
    (h.0, h.1, h.2, placed_of_some h.1 given before after h.0 h.3, h.4)
some_answered (rules.Both lex yacc form) given before after c h =
    (h.0, h.1, h.2, answered_of_some form h.1 given before after h.0 h.3, h.4)

some_begun : (r : Rules) (given before after : Option (List ℕ)) → IsAnswerBegun r given before after
    → IsAnswerBegun r None before after
some_begun (rules.Tokens lex form) given before after h = (h.0, h.1, h.2, answers_of_some h.3, h.4, h.5)
some_begun (rules.TableTokens tables form) given before after h =
    (h.0, h.1, h.2, h.3, h.4, listed_of_some form h.1 given h.3 h.4 h.5, h.6, h.7)
some_begun (rules.Tables tables form) given before after h =
    (h.0, h.1, h.2, begun_of_some form h.1 given before after h.0 h.3)
some_begun (rules.Lines tables form) given before after h = tt
some_begun (rules.TablesPlaced tables) given before after h =
    (h.0, h.1, h.2, placing_of_some h.1 given before after h.0 h.3)
some_begun (rules.BothPlaced lex yacc) given before after h =
    (h.0, h.1, h.2, placing_of_some h.1 given before after h.0 h.3)
some_begun (rules.Both lex yacc form) given before after h =
    (h.0, h.1, h.2, begun_of_some form h.1 given before after h.0 h.3)

pub if_answered : (r : Rules) (given before after : Option (List ℕ)) (result : Result Completion Failure)
    → IfOk result (IsParsedBy r given before after) → IfOk result (IsParsedBy r None before after)
if_answered r given before after result answered =
    ok_weaker result _ _ (some_answered r given before after) answered

pub if_begun : (r : Rules) (given before after : Option (List ℕ)) (result : Result Completion Failure)
    → IfErr result (λ f. IsOfWriter f → IsAnswerBegun r given before after)
    → IfErr result (λ f. IsOfWriter f → IsAnswerBegun r None before after)
if_begun r given before after result begun =
    err_weaker result _ _ (λ f h is. some_begun r given before after (h is)) begun

pub if_stopped : (r : Rules) (given before after : Option (List ℕ)) (result : Result Completion Failure)
    → IfErr result (AreLinesStoppedBy r given before after) → IfErr result (AreLinesStoppedBy r None before after)
if_stopped r given before after result stopped =
    err_weaker result _ _ (some_stopped r given before after) stopped

-- where a file can't be opened nothing was written
pub unopened : (r : Rules) (given before : Option (List ℕ)) (fault : FileFault)
    → AreLinesStoppedBy r given before before (failure_of_file fault)
unopened (rules.Tokens lex form) given before fault = tt
unopened (rules.TableTokens tables form) given before fault = tt
unopened (rules.Tables tables form) given before fault = tt
unopened (rules.Lines tables form) given before fault =
    fails_lines form tables.now given before before fault refl
unopened (rules.TablesPlaced tables) given before fault = tt
unopened (rules.BothPlaced lex yacc) given before fault = tt
unopened (rules.Both lex yacc form) given before fault = tt

-- what was read where no read failed
pub unfailed : {R : Type 0} {lex yacc : List ℕ} {result : Result Completion Failure} {old new : R}
    {before after : Option (List ℕ)} → (HasReadFailed result → ⊥)
    → (new ≡ old) ⊎ ((s : TableSet) × IsGenerated V2 version_2 lex yacc s × IsReadAsNeeded 4096 s before after)
    → IsReadByFiles lex yacc result old new before after
unfailed not (inl same) = inl same
unfailed not (inr read) =
    inr (read.0, read.1, record { needed = λ _. read.2; asked = λ failed. absurd (not failed) })

scanner_of_some : (tables : List ℕ) (given : Option (List ℕ)) (f : Failure) → IsRefusalOfScanner tables given f
    → IsRefusalOfScanner tables None f
scanner_of_some tables given (Tables fault) h = h
scanner_of_some tables given FaultyTables h = (h.0, h.1, (h.2.0, tt, h.2.2, h.2.3, h.2.4))
scanner_of_some tables given TooLong h = h
scanner_of_some tables given (CannotRead path) h = tt
scanner_of_some tables given (CannotWrite path) h = tt
scanner_of_some tables given OutOfMemory h = tt
scanner_of_some tables given (Unreadable path reason) h = h
scanner_of_some tables given (Refused fault line) h = h
scanner_of_some tables given (Unexpected counts wanted) h = h

tables_of_some : (tables : List ℕ) (given : Option (List ℕ)) (f : Failure) → IsRefusalOfTables tables given f
    → IsRefusalOfTables tables None f
tables_of_some tables given (Tables fault) h = h
tables_of_some tables given FaultyTables h = (h.0, h.1, (h.2.0, tt, h.2.2))
tables_of_some tables given TooLong h = tt
tables_of_some tables given (CannotRead path) h = tt
tables_of_some tables given (CannotWrite path) h = tt
tables_of_some tables given OutOfMemory h = tt
tables_of_some tables given (Unreadable path reason) h = h
tables_of_some tables given (Refused fault line) h = h
tables_of_some tables given (Unexpected counts wanted) h = h

files_of_some : (lex yacc : List ℕ) (given : Option (List ℕ)) (f : Failure) → IsRefusalOfFiles lex yacc given f
    → IsRefusalOfFiles lex yacc None f
files_of_some lex yacc given (Refused fault line) h = h
files_of_some lex yacc given TooLong h = tt
files_of_some lex yacc given (CannotRead path) h = tt
files_of_some lex yacc given (CannotWrite path) h = tt
files_of_some lex yacc given OutOfMemory h = tt
files_of_some lex yacc given (Tables fault) h = h
files_of_some lex yacc given FaultyTables h = h
files_of_some lex yacc given (Unreadable path reason) h = h
files_of_some lex yacc given (Unexpected counts wanted) h = h

some_refused : (r : Rules) (given : Option (List ℕ)) (f : Failure) → IsRefusalOf r given f → IsRefusalOf r None f
some_refused (rules.Tokens lex form) given f h = h
some_refused (rules.TableTokens tables form) given f h = scanner_of_some tables.now given f h
some_refused (rules.Tables tables form) given f h = tables_of_some tables.now given f h
some_refused (rules.Lines tables form) given f h = tt
some_refused (rules.TablesPlaced tables) given f h = tables_of_some tables.now given f h
some_refused (rules.BothPlaced lex yacc) given f h = files_of_some lex.now yacc.now given f h
some_refused (rules.Both lex yacc form) given f h = files_of_some lex.now yacc.now given f h

pub if_refused : (r : Rules) (given : Option (List ℕ)) (result : Result Completion Failure)
    → IfErr result (IsRefusalOf r given) → IfErr result (IsRefusalOf r None)
if_refused r given result refused = err_weaker result _ _ (some_refused r given) refused

-- What holds of the bytes of an open file holds of those of the file that its path names.
pub of_named : (P : Option (List ℕ) → Type 0) (files : Option Files) (path : List ℕ) (given : Option (List ℕ))
    → IsOpened files path given → (P given → P None) → P given → P (named files path)
of_named P None path given opened weaker h = weaker h
of_named P (Some f) path given opened weaker h = subst P opened.1 h
