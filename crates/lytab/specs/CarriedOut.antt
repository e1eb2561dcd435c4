-- What a command has written, or why it failed, and what it read.
use Rattle.std.specs.Prelude.{◌≡◌, ◌⊎◌, ◌++◌, ◌∷◌, option_map, ℕ, IfErr, IfOk, List, MatchResult}
use Rattle.std.specs.Prelude.{None, OnErr, OnOk, Option, Result, Some, codes, length}
use Rattle.std.specs.Fmt.{decimal}
use Rattle.std.specs.Io.KnownBytes.{IsAtEnd}
use Rattle.std.specs.declared.alloc.Global.{Global}
use Rattle.std.specs.declared.vec.Vec.{Vec}
use Rattle.ly_base.specs.Limits.{Sizes, least_of, sizes_in, version_2}
use Rattle.ly_base.specs.declared.version.Version.{Version}
use Rattle.ly_base.specs.declared.version.Version.TheVariants.{V1, V2}
use Rattle.ly_explain.specs.Explained.{IsExplained, no_rules}
use Rattle.ly_files.specs.Folder as folder
use Rattle.ly_files.specs.Folder.{Files, IsFile}
use Rattle.ly_generate.specs.Generated.{IsGenerated}
use Rattle.ly_generate.specs.Parser.{IsReportIf}
use Rattle.ly_generate.specs.declared.report_request.ReportRequest.{ReportRequest}
use Rattle.ly_generate.specs.declared.report_request.ReportRequest.TheVariants.{Unwanted, Wanted}
use Rattle.ly_print.specs.declared.answer_form.AnswerForm.{AnswerForm}
use Rattle.ly_print.specs.declared.answer_form.AnswerForm.TheVariants.{Json, Plain}
use Rattle.ly_report.specs.Counts.{AreCounts}
use Rattle.ly_report.specs.Report.{counts_line}
use Rattle.ly_report.specs.declared.counts.ConflictCounts.{ConflictCounts}
use Rattle.ly_analysis.specs.declared.analysis.Form.{Form}
use Rattle.ly_analysis.specs.declared.analysis.Form.TheVariants as shown_as
use Rattle.ly_explain.specs.Findings.{IsInForm}
use Rattle.ly_explain.specs.declared.surveying.Explanation.{Explanation}
use Rattle.ly_tables.specs.TableSet.{TableSet}
use Rattle.ly_tables.specs.TableText.{TableText}
use Rattle.ly_tables.specs.declared.set_counts.SetCounts.{SetCounts}
use Rattle.ly_cli.specs.Paths.{as_list}
use Rattle.ly_cli.specs.declared.command.ExplainPaths.{ExplainPaths}
use Rattle.ly_cli.specs.declared.command.Paths.{Paths}
use Rattle.ly_cli.specs.Request.{Request, build, check, explain, lines, run, run_placed, table_tokens}
use Rattle.ly_cli.specs.Request.{tokens, try, try_placed}
use Rattle.ly_cli.specs.declared.command.ReportForm.{ReportForm}
use Rattle.ly_cli.specs.declared.command.ReportForm.TheVariants as report_form
use Rattle.ly_cli.specs.declared.command.Strictness.{Strictness}
use Rattle.lytab.specs.Answering.{IsAnsweredByFiles, IsAnsweredByTables, AreTokensBegun, AreTokensPrinted}
use Rattle.lytab.specs.Answering.{IsBegunByFiles, IsBegunByTables, text_from}
use Rattle.lytab.specs.Completion.{completion_of_findings, completion_status}
use Rattle.lytab.specs.Devices.{WroteAllOrPrefix, DoneOrUnchanged, IsOutputAfter}
use Rattle.lytab.specs.Failure.{failure_status, IsOfDevice}
use Rattle.lytab.specs.Files.{AreFilesLeft, AreWritten, IsRead, set_if}
use Rattle.lytab.specs.Lines.{AreLinesAnsweredBy, AreLinesFailed, AreLinesRead}
use Rattle.lytab.specs.Placing.{IsPlacedByFiles, IsPlacedByTables, IsPlacingBegunByFiles, IsPlacingBegunByTables}
use Rattle.lytab.specs.Reading.{IsOfRules, IsReadByFiles, IsReadByTables}
use Rattle.lytab.specs.Refusal.{IsRefusalOfBuild, IsRefusalOfCheck, IsRefusalOfFiles, IsRefusalOfLex, IsRefusalOfTables}
use Rattle.lytab.specs.TableTokens.{AreTableTokens, AreTableTokensBegun, IsRefusalOfScanner}
use Rattle.lytab.specs.declared.completion.Completion.{Completion}
use Rattle.lytab.specs.declared.completion.Completion.TheVariants.{Done}
use Rattle.lytab.specs.declared.failure.Failure.{Failure}

-- a report is requested if a file is named for it
abbrev pub wanted_for : {A : Type 0} → Option A → ReportRequest
wanted_for (Some path) = Wanted
wanted_for None = Unwanted

-- a specification has the expected conflicts: exactly this many shift/reduce and no reduce/reduce conflicts
abbrev pub AreAsExpected : Option ℕ → ConflictCounts → Type 0
AreAsExpected None counts = Unit {0}
AreAsExpected (Some n) counts = (counts.shift_reduce ≡ n) × (counts.reduce_reduce ≡ 0)

-- Standard output and the files before and after a command.
pub record Outputs : Type 0 where
  pub files_before : Option Files
  pub files_after : Option Files
  pub before : Option (List ℕ)
  pub after : Option (List ℕ)

-- the paths of `build`
pub record PathsOfBuild : Type 0 where
  pub lex : List ℕ
  pub yacc : List ℕ
  pub tables : List ℕ
  pub report : Option (List ℕ)

abbrev pub paths_of_build : Paths → PathsOfBuild
paths_of_build p = record {
  lex = p.lex.now;
  yacc = p.yacc.now;
  tables = p.tables.now;
  report = option_map (λ s. s.now) p.report;
}

-- the files that `build` writes
abbrev pub written_by : Paths → List (List ℕ)
written_by p = p.tables.now ∷ as_list (option_map (λ s. s.now) p.report)

-- the paths of `explain`
pub record PathsOfExplain : Type 0 where
  pub lex : Option (List ℕ)
  pub yacc : List ℕ
  pub states : Option (List ℕ)
  pub graph : Option (List ℕ)

abbrev pub paths_of_explain : ExplainPaths → PathsOfExplain
paths_of_explain p = record {
  lex = option_map (λ s. s.now) p.lex;
  yacc = p.yacc.now;
  states = option_map (λ s. s.now) p.states;
  graph = option_map (λ s. s.now) p.graph;
}

-- the files that `explain` writes
abbrev pub drawn_by : ExplainPaths → List (List ℕ)
drawn_by p = as_list (option_map (λ s. s.now) p.states) ++ as_list (option_map (λ s. s.now) p.graph)

-- A table set was made from the specification that a lex file and a yacc file define within limits. Its table file was
-- written, and the specification's report if a file is named for it. The line with the numbers of conflicts was
-- written, and these are as expected.
pub record HasBuilt (limits : Sizes) (version : Version) (paths : PathsOfBuild) (expected : Option ℕ) (e : Outputs)
    (result : Result Completion Failure) : Type 0 where
  pub lex : List ℕ
  pub lex_read : IsFile e.files_before paths.lex lex
  pub yacc : List ℕ
  pub yacc_read : IsFile e.files_before paths.yacc yacc
  pub set : TableSet
  pub generated : IsGenerated version (least_of limits (sizes_in version)) lex yacc set
  pub tables : List ℕ
  pub spelled : TableText tables version set
  pub report : Option (Vec ℕ Global)
  pub is_report : IsReportIf (wanted_for paths.report) generated.spec report
  pub written : AreWritten (λ files. set_if paths.report report
      (folder.set paths.tables (Some tables) files)) e.files_before
      e.files_after
  pub counts : ConflictCounts
  pub are_counts : AreCounts generated.spec counts
  pub as_expected : AreAsExpected expected counts
  pub line : WroteAllOrPrefix result e.before e.after (counts_line counts.shift_reduce counts.reduce_reduce)
  pub done : IfOk result (λ c. c ≡ Done)

-- the sizes of the table set that the bytes of a table file of a version encode
pub record HasCounts (bytes : List ℕ) (version : Version) (counts : SetCounts) : Type 0 where
  pub set : TableSet
  pub spelled : TableText bytes version set
  pub terminals : counts.terminals ≡ length set.terminals
  pub nonterminals : counts.nonterminals ≡ set.nonterminals
  pub scanner_rules : counts.scanner_rules ≡ length set.scan_rules
  pub scanner_states : counts.scanner_states ≡ length set.accepted
  pub rules : counts.rules ≡ length set.rules
  pub parser_states : counts.parser_states ≡ length set.defaults

abbrev pub version_number : Version → ℕ
version_number V1 = 1
version_number V2 = 2

-- the line with the sizes of a table set
abbrev pub set_line : SetCounts → List ℕ
set_line counts = codes "tables: " ++ (decimal counts.terminals ++ codes " terminals, ")
    ++ (decimal counts.nonterminals ++ codes " nonterminals, ")
    ++ (decimal counts.scanner_rules ++ codes " scanner rules, ")
    ++ (decimal counts.scanner_states ++ codes " scanner states, ")
    ++ (decimal counts.rules ++ codes " rules, ") ++ (decimal counts.parser_states ++ codes " parser states\n")

-- the sizes as JSON, up to the number of the version
abbrev pub counts_json : SetCounts → List ℕ
counts_json counts = codes "{\"terminals\":" ++ (decimal counts.terminals ++ codes ",\"nonterminals\":")
    ++ (decimal counts.nonterminals ++ codes ",\"scanner_rules\":")
    ++ (decimal counts.scanner_rules ++ codes ",\"scanner_states\":")
    ++ (decimal counts.scanner_states ++ codes ",\"rules\":")
    ++ (decimal counts.rules ++ codes ",\"parser_states\":")
    ++ (decimal counts.parser_states ++ codes ",\"version\":")

-- the same line as JSON
abbrev pub set_json : SetCounts → Version → List ℕ
set_json counts version = counts_json counts ++ (decimal (version_number version) ++ codes "}\n")

-- the line in a form
abbrev pub set_told : AnswerForm → SetCounts → Version → List ℕ
set_told Plain counts version = set_line counts
set_told Json counts version = set_json counts version

-- that line was written
pub record HasChecked (form : AnswerForm) (path : List ℕ) (files : Option Files) (before after : Option (List ℕ))
    (result : Result Completion Failure) : Type 0
  where
    pub bytes : List ℕ
    pub read : IsFile files path bytes
    pub version : Version
    pub counts : SetCounts
    pub has : HasCounts bytes version counts
    pub line : WroteAllOrPrefix result before after (set_told form counts version)
    pub done : IfOk result (λ c. c ≡ Done)

-- the bytes of the lex file; if none is named, those of one without rules
abbrev pub lex_text : {A : Type 0} → Option A → List ℕ → List ℕ
lex_text (Some path) bytes = bytes
lex_text None bytes = no_rules

-- the form in which a report is made
abbrev pub form_of : ReportForm → Form
form_of report_form.Plain = shown_as.Plain
form_of report_form.Json = shown_as.Json
form_of report_form.Sarif = shown_as.Sarif

-- the bytes of the file with this path, if one is named
abbrev pub IsFileIf : Option Files → Option (List ℕ) → List ℕ → Type 0
IsFileIf files None bytes = Unit {0}
IsFileIf files (Some path) bytes = IsFile files path bytes

-- the report of a lex file and a yacc file was written in this form, with the right verdict; the states of their parser
-- and a graph of them were written if files are named for them and they exist; and the result is whether the files pass
pub record HasExplained (paths : PathsOfExplain) (strictness : Strictness) (form : ReportForm) (e : Outputs)
    (result : Result Completion Failure) : Type 0 where
  pub lex : List ℕ
  pub lex_read : IsFileIf e.files_before paths.lex lex
  pub yacc : List ℕ
  pub yacc_read : IsFile e.files_before paths.yacc yacc
  pub explanation : Explanation
  pub explained : IsExplained version_2 (lex_text paths.lex lex) yacc explanation
  pub in_form : IsInForm (form_of form) explanation.findings explanation.text.items
  pub written : AreWritten (λ files. set_if paths.graph explanation.picture
      (set_if paths.states explanation.states files)) e.files_before e.files_after
  pub text : WroteAllOrPrefix result e.before e.after explanation.text.items
  pub completed : IfOk result (λ c. c ≡ completion_of_findings strictness explanation.findings)

-- A command's standard input and output, and the files, before and after it: what standard input had and has left, and
-- what was and is on standard output.
pub record Ends (R : Type 0) : Type 0 where
  pub input_before : R
  pub input_after : R
  pub given : Option (List ℕ)
  pub left : Option (List ℕ)
  pub files_before : Option Files
  pub files_after : Option Files
  pub before : Option (List ℕ)
  pub after : Option (List ℕ)

-- Standard input is unchanged if the text is a file. Otherwise it is unchanged if the files that the text is parsed
-- with are rejected, and this holds of what was read.
abbrev pub IsInputTaken : {A R : Type 0} → Option A → Result Completion Failure → Ends R → Type 0 → Type 0
IsInputTaken (Some path) result e read = e.input_after ≡ e.input_before
IsInputTaken None result e read = IfErr result (λ f. IsOfRules f → e.input_after ≡ e.input_before) × read

-- The set of a table file parses the text, and no more is read than it needs; or nothing is read.
abbrev pub IsReadForTables : {R : Type 0} → List ℕ → Result Completion Failure → Ends R → Type 0
IsReadForTables tables result e = (e.input_after ≡ e.input_before) ⊎ IsReadByTables tables result e.given e.left

abbrev pub IsReadForFiles : {R : Type 0} → List ℕ → List ℕ → Result Completion Failure → Ends R → Type 0
IsReadForFiles lex yacc result e = IsReadByFiles lex yacc result e.input_before e.input_after e.given e.left

-- if a command that parses a text failed, a prefix of its output was written to standard output, or nothing
abbrev pub WroteNothingOrPrefix : {R : Type 0} → Result Completion Failure → Ends R → Type 0 → Type 0
WroteNothingOrPrefix result e begun = OnErr result ((e.after ≡ e.before) ⊎ begun)

-- what of it is written
abbrev pub outputs_of : {R : Type 0} → Ends R → Outputs
outputs_of e = record {
  files_before = e.files_before;
  files_after = e.files_after;
  before = e.before;
  after = e.after;
}

-- what a command did and how it ended
abbrev pub IsCarriedOut : {R : Type 0} → Request → Result Completion Failure → Ends R → Type 0
IsCarriedOut (tokens lex text by) result e = (bytes : List ℕ)
    × IsRead e.files_before lex result bytes
    × IfOk result (AreTokensPrinted by.form bytes (text_from text e.files_before e.given) e.before e.after)
    × IfErr result (IsRefusalOfLex bytes)
    × WroteNothingOrPrefix result e (AreTokensBegun by.form bytes (text_from text e.files_before e.given) e.before
    e.after)
    × IsInputTaken text result e (OnOk result (IsAtEnd e.left))
IsCarriedOut (table_tokens table_file text by) result e = (bytes : List ℕ)
    × IsRead e.files_before table_file result bytes
    × IfOk result (AreTableTokens by.form bytes (text_from text e.files_before e.given) e.before e.after)
    × IfErr result (IsRefusalOfScanner bytes (text_from text e.files_before e.given))
    × WroteNothingOrPrefix result e (AreTableTokensBegun by.form bytes (text_from text e.files_before e.given) e.before
    e.after)
    × IsInputTaken text result e (OnOk result (IsAtEnd e.left))
IsCarriedOut (run table_file text by) result e = (bytes : List ℕ)
    × IsRead e.files_before table_file result bytes
    × IfOk result (IsAnsweredByTables by.form bytes (text_from text e.files_before e.given) e.before e.after)
    × IfErr result (IsRefusalOfTables bytes (text_from text e.files_before e.given))
    × WroteNothingOrPrefix result e (IsBegunByTables by.form bytes (text_from text e.files_before e.given) e.before
    e.after)
    × IsInputTaken text result e (IsReadForTables bytes result e)
IsCarriedOut (lines table_file text by) result e = (bytes : List ℕ)
    × IsRead e.files_before table_file result bytes
    × IfOk result (AreLinesAnsweredBy by.form bytes (text_from text e.files_before e.given) e.before e.after)
    × IfErr result (AreLinesFailed by.form bytes (text_from text e.files_before e.given) e.before e.after)
    × IsInputTaken text result e ((e.input_after ≡ e.input_before)
    ⊎ AreLinesRead by.form bytes result e.given e.left e.before e.after)
IsCarriedOut (run_placed table_file text points) result e = (bytes : List ℕ)
    × IsRead e.files_before table_file result bytes
    × IfOk result (IsPlacedByTables bytes (text_from text e.files_before e.given) e.before e.after)
    × IfErr result (IsRefusalOfTables bytes (text_from text e.files_before e.given))
    × WroteNothingOrPrefix result e (IsPlacingBegunByTables bytes (text_from text e.files_before e.given) e.before
    e.after)
    × IsInputTaken text result e (OnOk result (IsAtEnd e.left))
IsCarriedOut (try_placed lex yacc text points) result e = (lex_bytes yacc_bytes : List ℕ)
    × IsRead e.files_before lex result lex_bytes
    × IsRead e.files_before yacc result yacc_bytes
    × IfOk result (IsPlacedByFiles lex_bytes yacc_bytes (text_from text e.files_before e.given) e.before e.after)
    × IfErr result (IsRefusalOfFiles lex_bytes yacc_bytes (text_from text e.files_before e.given))
    × WroteNothingOrPrefix result e
    (IsPlacingBegunByFiles lex_bytes yacc_bytes (text_from text e.files_before e.given) e.before e.after)
    × IsInputTaken text result e (OnOk result (IsAtEnd e.left))
IsCarriedOut (try lex yacc text by) result e = (lex_bytes yacc_bytes : List ℕ)
    × IsRead e.files_before lex result lex_bytes
    × IsRead e.files_before yacc result yacc_bytes
    × IfOk result (IsAnsweredByFiles by.form lex_bytes yacc_bytes (text_from text e.files_before e.given) e.before
    e.after)
    × IfErr result (IsRefusalOfFiles lex_bytes yacc_bytes (text_from text e.files_before e.given))
    × WroteNothingOrPrefix result e
    (IsBegunByFiles by.form lex_bytes yacc_bytes (text_from text e.files_before e.given) e.before e.after)
    × IsInputTaken text result e (IsReadForFiles lex_bytes yacc_bytes result e)
IsCarriedOut (build lex yacc table_file report version expected points) result e =
    DoneOrUnchanged result e.before e.after (HasBuilt version_2 version
    (record { lex = lex; yacc = yacc; tables = table_file; report = report }) expected (outputs_of e) result)
    × IfErr result (IsRefusalOfBuild version expected e.files_before lex yacc)
    × (e.input_after ≡ e.input_before)
IsCarriedOut (check table_file by) result e =
    DoneOrUnchanged result e.before e.after (HasChecked by.form table_file e.files_before e.before e.after result)
    × IfErr result (IsRefusalOfCheck e.files_before table_file)
    × (e.input_after ≡ e.input_before)
IsCarriedOut (explain lex yacc states graph strictness form) result e =
    DoneOrUnchanged result e.before e.after (HasExplained
    (record { lex = lex; yacc = yacc; states = states; graph = graph }) strictness form (outputs_of e) result)
    × IfErr result IsOfDevice
    × (e.input_after ≡ e.input_before)

-- the exit status of a command with this result; if it failed it may also be 3, if there is no memory for the line of
-- the failure
abbrev pub IsStatusOf : ℕ → Result Completion Failure → Type 0
IsStatusOf status result = MatchResult result (λ c. status ≡ completion_status c)
    (λ f. (status ≡ failure_status f) ⊎ (status ≡ 3))

-- A command was carried out, with its exit status. If it succeeded, no write to standard output failed. If it failed,
-- standard output and its failure count are unchanged; or a write failed, the count is one more, the status is 3, and a
-- prefix of the output was written. So standard output is unchanged for a failure with status 1 or 2, and for any
-- failure if its failure count is unchanged. With `--lines`, however, the output for the lines before the failure was
-- written.
pub record HasPerformed {R : Type 0} (request : Request) (e : Ends R) (failures new_failures status : ℕ) : Type 0 where
  pub result : Result Completion Failure
  pub carried_out : IsCarriedOut request result e
  pub files : AreFilesLeft request result e.files_before e.files_after
  pub is_status : IsStatusOf status result
  pub output : IsOutputAfter request result e.before e.after failures new_failures
