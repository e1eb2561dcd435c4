-- What a command did is said of its request, whose paths are the bytes of those that the command has.
use Rattle.std.proofs.Common.{◌≡◌, ◌⊎◌, ap, Bool, Err, IfErr, IfOk, inl, inr, [], List, None, Ok, OnErr, OnOk}
use Rattle.std.proofs.Common.{Option, option_map, refl, Result, Some, subst, sym, ℕ}
use Rattle.std.specs.Prelude.{IsSome}
use Rattle.std.specs.Result.{IsErrAnd}
use Rattle.std.specs.Io.KnownBytes.{IsAtEnd}
use Rattle.ly_base.specs.declared.version.Version.{Version}
use Rattle.ly_print.specs.declared.answer_form.AnswerForm.{AnswerForm}
use Rattle.ly_cli.specs.Request.{Request, build, check, explain, lines, run, run_placed, table_tokens}
use Rattle.ly_cli.specs.Request.{tokens, try, try_placed}
use Rattle.ly_cli.specs.declared.command.Answering.{Answering}
use Rattle.lytab.specs.Answering.{AreTokensBegun, AreTokensPrinted, IsAnsweredByFiles, IsAnsweredByTables}
use Rattle.lytab.specs.Answering.{IsBegunByFiles, IsBegunByTables, text_from}
use Rattle.lytab.specs.CarriedOut.{Ends, WroteNothingOrPrefix, IsCarriedOut, IsInputTaken}
use Rattle.lytab.specs.CarriedOut.{wanted_for}
use Rattle.lytab.specs.Devices.{LineFailuresReported, WriteFailuresReported, UnchangedOrWriteFailed}
use Rattle.lytab.specs.Devices.{OutputFailuresReported, DoneOrUnchanged, IsOutputAfter}
use Rattle.lytab.specs.Failure.{IsOfDevice, IsOfWriter, failure_of_file}
use Rattle.ly_files.specs.Folder.{Files, IsFile}
use Rattle.lytab.specs.Lines.{AreLinesAnsweredBy, AreLinesFailed, AreLinesRead}
use Rattle.lytab.specs.Placing.{IsPlacedByFiles, IsPlacedByTables, IsPlacingBegunByFiles, IsPlacingBegunByTables}
use Rattle.lytab.specs.Reading.{IsOfRules, IsReadByFiles, IsReadByTables}
use Rattle.lytab.specs.Refusal.{IsRefusalOfBuild, IsRefusalOfCheck, IsRefusalOfFiles, IsRefusalOfLex}
use Rattle.lytab.specs.Refusal.{IsRefusalOfTables}
use Rattle.lytab.specs.TableTokens.{AreTableTokens, AreTableTokensBegun, IsRefusalOfScanner}
use Rattle.lytab.specs.declared.completion.Completion.{Completion}
use Rattle.lytab.specs.declared.failure.Failure.{Failure}
use Rattle.lytab.specs.declared.failure.Failure.TheVariants.{FaultyTables, Refused, Tables, TooLong, Unexpected}
use Rattle.lytab.specs.declared.failure.Failure.TheVariants.{Unreadable}
use Rattle.lytab.specs.declared.failure.Failure.TheVariants as failure
use Rattle.ly_files.specs.declared.file_fault.FileFault.{FileFault}
use Rattle.ly_files.specs.declared.file_fault.FileFault.TheVariants.{CannotRead, CannotWrite, OutOfMemory}

-- a file that can't be read, or a failed allocation, implies nothing of what files hold
fails_lex : (lex : List ℕ) (fault : FileFault) → IsRefusalOfLex lex (failure_of_file fault)
fails_lex lex (CannotRead path reason) = tt
fails_lex lex (CannotWrite path reason) = tt
fails_lex lex OutOfMemory = tt

fails_tables : (tables : List ℕ) (given : Option (List ℕ)) (fault : FileFault)
    → IsRefusalOfTables tables given (failure_of_file fault)
fails_tables tables given (CannotRead path reason) = tt
fails_tables tables given (CannotWrite path reason) = tt
fails_tables tables given OutOfMemory = tt

fails_scanner : (tables : List ℕ) (given : Option (List ℕ)) (fault : FileFault)
    → IsRefusalOfScanner tables given (failure_of_file fault)
fails_scanner tables given (CannotRead path reason) = tt
fails_scanner tables given (CannotWrite path reason) = tt
fails_scanner tables given OutOfMemory = tt

pub fails_lines : (form : AnswerForm) (tables : List ℕ) (given before after : Option (List ℕ)) (fault : FileFault)
    → after ≡ before → AreLinesFailed form tables given before after (failure_of_file fault)
fails_lines form tables given before after (CannotRead path reason) same = inl same
fails_lines form tables given before after (CannotWrite path reason) same = inl same
fails_lines form tables given before after OutOfMemory same = inl same

fails_files : (lex yacc : List ℕ) (given : Option (List ℕ)) (fault : FileFault)
    → IsRefusalOfFiles lex yacc given (failure_of_file fault)
fails_files lex yacc given (CannotRead path reason) = tt
fails_files lex yacc given (CannotWrite path reason) = tt
fails_files lex yacc given OutOfMemory = tt

pub fails_build : (version : Version) (expected : Option ℕ) (files : Option Files) (lex yacc : List ℕ)
    (fault : FileFault) → IsRefusalOfBuild version expected files lex yacc (failure_of_file fault)
fails_build version expected files lex yacc (CannotRead path reason) = tt
fails_build version expected files lex yacc (CannotWrite path reason) = tt
fails_build version expected files lex yacc OutOfMemory = tt

fails_check : (files : Option Files) (path : List ℕ) (fault : FileFault)
    → IsRefusalOfCheck files path (failure_of_file fault)
fails_check files path (CannotRead p reason) = tt
fails_check files path (CannotWrite p reason) = tt
fails_check files path OutOfMemory = tt

fails_device : (fault : FileFault) → IsOfDevice (failure_of_file fault)
fails_device (CannotRead path reason) = tt
fails_device (CannotWrite path reason) = tt
fails_device OutOfMemory = tt

untouched : {A R : Type 0} (text : Option A) (r : Result Completion Failure) (e : Ends R) (read : Type 0)
    → e.input_after ≡ e.input_before → IfErr r (λ f. IsOfRules f → e.input_after ≡ e.input_before) → read
    → IsInputTaken text r e read
untouched None r e read same unread done = (unread, done)
untouched (Some path) r e read same unread done = same

-- so a command failed before it did anything, and standard input and output are as they were
pub failed_first : {R : Type 0} (request : Request) (fault : FileFault) (e : Ends R)
    → e.input_after ≡ e.input_before → e.after ≡ e.before
    → IsCarriedOut request (Err (failure_of_file fault)) e
failed_first (tokens lex text by) fault e same kept = (
  [],
  λ no. absurd (no (fails_device fault)),
  tt,
  fails_lex [] fault,
  inl kept,
  untouched text (Err (failure_of_file fault)) e _ same (λ _. same) tt,
)
failed_first (table_tokens table_file text by) fault e same kept = (
  [],
  λ no. absurd (no (fails_device fault)),
  tt,
  fails_scanner [] (text_from text e.files_before e.given) fault,
  inl kept,
  untouched text (Err (failure_of_file fault)) e _ same (λ _. same) tt,
)
failed_first (run table_file text by) fault e same kept = (
  [],
  λ no. absurd (no (fails_device fault)),
  tt,
  fails_tables [] (text_from text e.files_before e.given) fault,
  inl kept,
  untouched text (Err (failure_of_file fault)) e _ same (λ _. same) (inl same),
)
failed_first (lines table_file text by) fault e same kept = (
  [],
  λ no. absurd (no (fails_device fault)),
  tt,
  fails_lines by.form [] (text_from text e.files_before e.given) e.before e.after fault kept,
  untouched text (Err (failure_of_file fault)) e _ same (λ _. same) (inl same),
)
failed_first (run_placed table_file text points) fault e same kept = (
  [],
  λ no. absurd (no (fails_device fault)),
  tt,
  fails_tables [] (text_from text e.files_before e.given) fault,
  inl kept,
  untouched text (Err (failure_of_file fault)) e _ same (λ _. same) tt,
)
failed_first (try_placed lex yacc text points) fault e same kept = (
  [],
  [],
  λ no. absurd (no (fails_device fault)),
  λ no. absurd (no (fails_device fault)),
  tt,
  fails_files [] [] (text_from text e.files_before e.given) fault,
  inl kept,
  untouched text (Err (failure_of_file fault)) e _ same (λ _. same) tt,
)
failed_first (try lex yacc text by) fault e same kept = (
  [],
  [],
  λ no. absurd (no (fails_device fault)),
  λ no. absurd (no (fails_device fault)),
  tt,
  fails_files [] [] (text_from text e.files_before e.given) fault,
  inl kept,
  untouched text (Err (failure_of_file fault)) e _ same (λ _. same) (inl same),
)
failed_first (build lex yacc table_file report version expected points) fault e same kept =
    (inl kept, fails_build version expected e.files_before lex yacc fault, same)
failed_first (check table_file by) fault e same kept = (inl kept, fails_check e.files_before table_file fault, same)
failed_first (explain lex yacc states graph strictness form) fault e same kept =
    (inl kept, fails_device fault, same)

pub failed_with : {R : Type 0} (request : Request) (fault : FileFault) (e : Ends R)
    (r : Result Completion Failure) → IsErrAnd r (λ f. f ≡ failure_of_file fault) → e.input_after ≡ e.input_before
    → e.after ≡ e.before → IsCarriedOut request r e
failed_with request fault e (Ok c) is same kept = absurd is
failed_with request fault e (Err f) is same kept =
    subst (λ g. IsCarriedOut request (Err g) e) (sym is)
    (failed_first request fault e same kept)

-- what is said of standard input, whatever paths are
input_mapped : {A B R : Type 0} (f : A → B) (text : Option A) (r : Result Completion Failure) (e : Ends R)
    (read : Type 0) → (IsSome text → e.input_after ≡ e.input_before)
    → (text ≡ None → IfErr r (λ g. IsOfRules g → e.input_after ≡ e.input_before)) → (text ≡ None → read)
    → IsInputTaken (option_map f text) r e read
input_mapped f None r e read elsewhere refused needed = (refused refl, needed refl)
input_mapped f (Some path) r e read elsewhere refused needed = elsewhere refl

-- where a command failed that answers a text, nothing was written, or a beginning of the answer
pub begun_at_most : {W : Type 0} (known : W → Option (List ℕ)) (r : Result Completion Failure) (old new : W)
    (begun : Type 0) → IfErr r (λ f. IsOfWriter f → begun) → IfErr r (λ f. (IsOfWriter f → ⊥) → new ≡ old)
    → OnErr r ((known new ≡ known old) ⊎ begun)
begun_at_most known (Ok c) old new begun begins stays = tt
begun_at_most known (Err (failure.CannotWrite path)) old new begun begins stays = inr (begins tt)
begun_at_most known (Err (failure.CannotRead path)) old new begun begins stays = inl (ap known (stays (λ no. no)))
begun_at_most known (Err (Unreadable path reason)) old new begun begins stays = inl (ap known (stays (λ no. no)))
begun_at_most known (Err (Refused fault line)) old new begun begins stays = inl (ap known (stays (λ no. no)))
begun_at_most known (Err (Unexpected counts wanted)) old new begun begins stays = inl (ap known (stays (λ no. no)))
begun_at_most known (Err (Tables fault)) old new begun begins stays = inl (ap known (stays (λ no. no)))
begun_at_most known (Err FaultyTables) old new begun begins stays = inl (ap known (stays (λ no. no)))
begun_at_most known (Err TooLong) old new begun begins stays = inl (ap known (stays (λ no. no)))
begun_at_most known (Err failure.OutOfMemory) old new begun begins stays = inl (ap known (stays (λ no. no)))

-- a command that parses a text, by the bytes of its files
pub carried_tokens : {A R : Type 0} (f : A → List ℕ) (path lex : List ℕ) (text : Option A) (by : Answering)
    (r : Result Completion Failure) (e : Ends R) → IsFile e.files_before path lex
    → IfOk r (AreTokensPrinted by.form lex (text_from (option_map f text) e.files_before e.given) e.before e.after)
    → IfErr r (IsRefusalOfLex lex)
    → WroteNothingOrPrefix r e
    (AreTokensBegun by.form lex (text_from (option_map f text) e.files_before e.given) e.before e.after)
    → (IsSome text → e.input_after ≡ e.input_before)
    → (text ≡ None → IfErr r (λ g. IsOfRules g → e.input_after ≡ e.input_before))
    → (text ≡ None → OnOk r (IsAtEnd e.left)) → IsCarriedOut (tokens path (option_map f text) by) r e
carried_tokens f path lex text by r e is answered refused begins elsewhere unread needed = (
  lex,
  λ no. is,
  answered,
  refused,
  begins,
  input_mapped f text r e (OnOk r (IsAtEnd e.left)) elsewhere unread
      needed,
)

pub carried_table_tokens : {A R : Type 0} (f : A → List ℕ) (path bytes : List ℕ) (text : Option A) (by : Answering)
    (r : Result Completion Failure) (e : Ends R) → IsFile e.files_before path bytes
    → IfOk r (AreTableTokens by.form bytes (text_from (option_map f text) e.files_before e.given) e.before e.after)
    → IfErr r (IsRefusalOfScanner bytes (text_from (option_map f text) e.files_before e.given))
    → WroteNothingOrPrefix r e
    (AreTableTokensBegun by.form bytes (text_from (option_map f text) e.files_before e.given) e.before e.after)
    → (IsSome text → e.input_after ≡ e.input_before)
    → (text ≡ None → IfErr r (λ g. IsOfRules g → e.input_after ≡ e.input_before))
    → (text ≡ None → OnOk r (IsAtEnd e.left)) → IsCarriedOut (table_tokens path (option_map f text) by) r e
carried_table_tokens f path bytes text by r e is answered refused begins elsewhere unread needed = (
  bytes,
  λ no. is,
  answered,
  refused,
  begins,
  input_mapped f text r e (OnOk r (IsAtEnd e.left)) elsewhere unread needed,
)

pub carried_run : {A R : Type 0} (f : A → List ℕ) (path bytes : List ℕ) (text : Option A) (by : Answering)
    (r : Result Completion Failure) (e : Ends R) → IsFile e.files_before path bytes
    → IfOk r (IsAnsweredByTables by.form bytes (text_from (option_map f text) e.files_before e.given) e.before e.after)
    → IfErr r (IsRefusalOfTables bytes (text_from (option_map f text) e.files_before e.given))
    → WroteNothingOrPrefix r e
    (IsBegunByTables by.form bytes (text_from (option_map f text) e.files_before e.given) e.before e.after)
    → (IsSome text → e.input_after ≡ e.input_before)
    → (text ≡ None → IfErr r (λ g. IsOfRules g → e.input_after ≡ e.input_before))
    → (text ≡ None → IsReadByTables bytes r e.given e.left) → IsCarriedOut (run path (option_map f text) by) r e
carried_run f path bytes text by r e is answered refused begins elsewhere unread needed = (
  bytes,
  λ no. is,
  answered,
  refused,
  begins,
  input_mapped f text r e _ elsewhere unread (λ no. inr (needed no)),
)

pub carried_lines : {A R : Type 0} (f : A → List ℕ) (path bytes : List ℕ) (text : Option A) (by : Answering)
    (r : Result Completion Failure) (e : Ends R) → IsFile e.files_before path bytes
    → IfOk r (AreLinesAnsweredBy by.form bytes (text_from (option_map f text) e.files_before e.given) e.before e.after)
    → IfErr r (AreLinesFailed by.form bytes (text_from (option_map f text) e.files_before e.given) e.before e.after)
    → (IsSome text → e.input_after ≡ e.input_before)
    → (text ≡ None → IfErr r (λ g. IsOfRules g → e.input_after ≡ e.input_before))
    → (text ≡ None → AreLinesRead by.form bytes r e.given e.left e.before e.after)
    → IsCarriedOut (lines path (option_map f text) by) r e
carried_lines f path bytes text by r e is answered failed elsewhere unread read =
    (bytes, λ no. is, answered, failed, input_mapped f text r e _ elsewhere unread (λ no. inr (read no)))

pub carried_run_placed : {A R : Type 0} (f : A → List ℕ) (path bytes : List ℕ) (text : Option A) (points : Bool)
    (r : Result Completion Failure) (e : Ends R) → IsFile e.files_before path bytes
    → IfOk r (IsPlacedByTables bytes (text_from (option_map f text) e.files_before e.given) e.before e.after)
    → IfErr r (IsRefusalOfTables bytes (text_from (option_map f text) e.files_before e.given))
    → WroteNothingOrPrefix r e
    (IsPlacingBegunByTables bytes (text_from (option_map f text) e.files_before e.given) e.before e.after)
    → (IsSome text → e.input_after ≡ e.input_before)
    → (text ≡ None → IfErr r (λ g. IsOfRules g → e.input_after ≡ e.input_before))
    → (text ≡ None → OnOk r (IsAtEnd e.left)) → IsCarriedOut (run_placed path (option_map f text) points) r e
carried_run_placed f path bytes text points r e is answered refused begins elsewhere unread needed = (
  bytes,
  λ no. is,
  answered,
  refused,
  begins,
  input_mapped f text r e (OnOk r (IsAtEnd e.left)) elsewhere unread needed,
)

pub carried_try_placed : {A R : Type 0} (f : A → List ℕ) (path other lex yacc : List ℕ) (text : Option A)
    (points : Bool) (r : Result Completion Failure) (e : Ends R) → IsFile e.files_before path lex
    → IsFile e.files_before other yacc
    → IfOk r (IsPlacedByFiles lex yacc (text_from (option_map f text) e.files_before e.given) e.before e.after)
    → IfErr r (IsRefusalOfFiles lex yacc (text_from (option_map f text) e.files_before e.given))
    → WroteNothingOrPrefix r e
    (IsPlacingBegunByFiles lex yacc (text_from (option_map f text) e.files_before e.given) e.before e.after)
    → (IsSome text → e.input_after ≡ e.input_before)
    → (text ≡ None → IfErr r (λ g. IsOfRules g → e.input_after ≡ e.input_before))
    → (text ≡ None → OnOk r (IsAtEnd e.left)) → IsCarriedOut (try_placed path other (option_map f text) points) r e
carried_try_placed f path other lex yacc text points r e is also answered refused begins elsewhere unread needed = (
  lex,
  yacc,
  λ no. is,
  λ no. also,
  answered,
  refused,
  begins,
  input_mapped f text r e (OnOk r (IsAtEnd e.left)) elsewhere unread needed,
)

pub carried_try : {A R : Type 0} (f : A → List ℕ) (path other lex yacc : List ℕ) (text : Option A) (by : Answering)
    (r : Result Completion Failure) (e : Ends R) → IsFile e.files_before path lex → IsFile e.files_before other yacc
    → IfOk r (IsAnsweredByFiles by.form lex yacc (text_from (option_map f text) e.files_before e.given) e.before
    e.after)
    → IfErr r (IsRefusalOfFiles lex yacc (text_from (option_map f text) e.files_before e.given))
    → WroteNothingOrPrefix r e
    (IsBegunByFiles by.form lex yacc (text_from (option_map f text) e.files_before e.given) e.before e.after)
    → (IsSome text → e.input_after ≡ e.input_before)
    → (text ≡ None → IfErr r (λ g. IsOfRules g → e.input_after ≡ e.input_before))
    → (text ≡ None → IsReadByFiles lex yacc r e.input_before e.input_after e.given e.left)
    → IsCarriedOut (try path other (option_map f text) by) r e
carried_try f path other lex yacc text by r e is also answered refused begins elsewhere unread needed = (
  lex,
  yacc,
  λ no. is,
  λ no. also,
  answered,
  refused,
  begins,
  input_mapped f text r e _ elsewhere unread needed,
)

-- whether a report is wanted, by the path as an argument
pub wanted_named : {A B : Type 0} (f : A → B) (path : Option A) → wanted_for path ≡ wanted_for (option_map f path)
wanted_named f None = refl
wanted_named f (Some path) = refl

-- it is told, however the command ends
pub is_told : {A : Type 0} (r : Result Completion Failure) (before after : Option (List ℕ)) → A
    → DoneOrUnchanged r before after A
is_told (Ok c) before after h = h
is_told (Err f) before after h = inr h

-- what is told of a device is told of what is known of it
left_or_failed : {W : Type 0} (known : W → Option (List ℕ)) (old new : W) (before after : ℕ) (f : Failure)
    → UnchangedOrWriteFailed old new before after f → UnchangedOrWriteFailed (known old) (known new) before after f
left_or_failed known old new before after f (inl left) = inl (left.0, ap known left.1)
left_or_failed known old new before after f (inr failed) = inr failed

known_told : {W : Type 0} (known : W → Option (List ℕ)) (r : Result Completion Failure) (old new : W)
    (before after : ℕ) → OutputFailuresReported r old new before after
    → OutputFailuresReported r (known old) (known new) before after
known_told known (Ok c) old new before after h = record { failed = tt; held = h.held }
known_told known (Err f) old new before after h =
    record { failed = left_or_failed known old new before after f h.failed; held = h.held }

pub told_of_known : {W : Type 0} (known : W → Option (List ℕ)) (request : Request) (r : Result Completion Failure)
    (old new : W) (before after : ℕ) → IsOutputAfter request r old new before after
    → IsOutputAfter request r (known old) (known new) before after
told_of_known known (tokens lex text by) r old new before after h = known_told known r old new before after h
told_of_known known (table_tokens tables text by) r old new before after h =
    known_told known r old new before after h
told_of_known known (build lex yacc tables report version expected points) r old new before after h =
    known_told known r old new before after h
told_of_known known (run tables text by) r old new before after h = known_told known r old new before after h
told_of_known known (lines tables text by) r old new before after h = h
told_of_known known (run_placed tables text points) r old new before after h =
    known_told known r old new before after h
told_of_known known (try_placed lex yacc text points) r old new before after h =
    known_told known r old new before after h
told_of_known known (try lex yacc text by) r old new before after h = known_told known r old new before after h
told_of_known known (check tables by) r old new before after h = known_told known r old new before after h
told_of_known known (explain lex yacc states graph strictness form) r old new before after h =
    known_told known r old new before after h

-- a command that failed before it did anything
pub kept_told : {W : Type 0} (request : Request) (f : Failure) (old : W) (count : ℕ)
    → IsOutputAfter request (Err f) old old count count
kept_told (tokens lex text by) f old count = record { failed = inl (refl, refl); held = tt }
kept_told (table_tokens tables text by) f old count = record { failed = inl (refl, refl); held = tt }
kept_told (build lex yacc tables report version expected points) f old count =
    record { failed = inl (refl, refl); held = tt }
kept_told (run tables text by) f old count = record { failed = inl (refl, refl); held = tt }
kept_told (lines tables text by) f old count = record { failed = inl refl; held = tt }
kept_told (run_placed tables text points) f old count = record { failed = inl (refl, refl); held = tt }
kept_told (try_placed lex yacc text points) f old count = record { failed = inl (refl, refl); held = tt }
kept_told (try lex yacc text by) f old count = record { failed = inl (refl, refl); held = tt }
kept_told (check tables by) f old count = record { failed = inl (refl, refl); held = tt }
kept_told (explain lex yacc states graph strictness form) f old count = record { failed = inl (refl, refl); held = tt }

-- what is told of standard output where lines were answered
pub lines_told : (r : Result Completion Failure) (before after : ℕ) → WriteFailuresReported r before after
    → IfErr r (λ f. (IsOfWriter f → ⊥) → after ≡ before) → LineFailuresReported r before after
lines_told (Ok c) before after told kept = record { failed = tt; held = told.held }
lines_told (Err (failure.CannotWrite path)) before after told kept =
    record { failed = inr (told.failed tt, tt); held = tt }
lines_told (Err (failure.CannotRead path)) before after told kept = record { failed = inl (kept (λ no. no)); held = tt }
lines_told (Err (Unreadable path reason)) before after told kept =
    record { failed = inl (kept (λ no. no)); held = tt }
lines_told (Err (Refused fault line)) before after told kept = record { failed = inl (kept (λ no. no)); held = tt }
lines_told (Err (Tables fault)) before after told kept = record { failed = inl (kept (λ no. no)); held = tt }
lines_told (Err (Unexpected counts expected)) before after told kept =
    record { failed = inl (kept (λ no. no)); held = tt }
lines_told (Err FaultyTables) before after told kept = record { failed = inl (kept (λ no. no)); held = tt }
lines_told (Err TooLong) before after told kept = record { failed = inl (kept (λ no. no)); held = tt }
lines_told (Err failure.OutOfMemory) before after told kept = record { failed = inl (kept (λ no. no)); held = tt }
