-- The command line of lytab, and what its arguments mean.
use Rattle.std.specs.Prelude.{◌≡◌, ◌∷◌, ◌^◌, ◌&&◌, [], List, Bool, Option, Some, None, codes, false, fold, length}
use Rattle.std.specs.Prelude.{nat_lt, option_and_then, option_map, true, ℕ, if◌then◌else◌}
use Rattle.std.specs.Option.{option_map_or}
use Rattle.std.specs.Str.{all_ascii_digits, bytes_eq}
use Rattle.std.specs.Str.Parse.{digits_value, without_leading_plus}
use Rattle.clap.specs.Words.{App, Kinds, Row, Rule, Text, app_of, fault_of, first_of, new_app, new_rule}
use Rattle.clap.specs.Words.{subcommand_of, takes, with_rule, with_subcommand}
use Rattle.clap.specs.declared.builder.action.ArgAction.TheVariants.{SetTrue}
use Rattle.clap.specs.declared.builder.command.Command.{Command}
use Rattle.clap.specs.declared.builder.command.Command.TheViews.{out-Command}
use Rattle.ly_base.specs.declared.version.Version.{Version}
use Rattle.ly_base.specs.declared.version.Version.TheVariants.{V1, V2}
use Rattle.ly_print.specs.declared.answer_form.AnswerForm.{AnswerForm}
use Rattle.ly_print.specs.declared.answer_form.AnswerForm.TheVariants.{Json, Plain}
use Rattle.ly_cli.specs.Request.{Request, build, check, explain, lines, run, run_placed, table_tokens}
use Rattle.ly_cli.specs.Request.{tokens, try, try_placed}
use Rattle.ly_cli.specs.declared.command.Answering.{Answering}
use Rattle.ly_cli.specs.declared.command.ReportForm.{ReportForm}
use Rattle.ly_cli.specs.declared.command.ReportForm.TheVariants as report_form
use Rattle.ly_cli.specs.declared.command.Strictness.{Strictness}

-- a required path
abbrev pub path_rule : Text → Rule
path_rule id = record (new_rule id) { required = true }

-- `TEXT`, which may be left out
abbrev pub text_rule : Rule
text_rule = new_rule (codes "TEXT")

-- `--report FILE`
abbrev pub report_rule : Rule
report_rule = record (new_rule (codes "FILE")) { long = Some (codes "report") }

-- `--format VERSION`
abbrev pub format_rule : Rule
format_rule = record (new_rule (codes "VERSION")) { long = Some (codes "format") }

-- `--expect COUNT`
abbrev pub expect_rule : Rule
expect_rule = record (new_rule (codes "COUNT")) { long = Some (codes "expect") }

-- `--states FILE`
abbrev pub states_rule : Rule
states_rule = record (new_rule (codes "STATES")) { long = Some (codes "states") }

-- `--graph FILE`
abbrev pub graph_rule : Rule
graph_rule = record (new_rule (codes "GRAPH")) { long = Some (codes "graph") }

-- a flag, which takes no value
abbrev pub flag_rule : Text → Text → Rule
flag_rule id name = record (new_rule id) { long = Some name; action = Some SetTrue }

-- `--tables`
abbrev pub by_tables_rule : Rule
by_tables_rule = flag_rule (codes "SCANNER") (codes "tables")

-- `--lines`
abbrev pub lines_rule : Rule
lines_rule = flag_rule (codes "LINES") (codes "lines")

-- `--json`
abbrev pub json_rule : Rule
json_rule = flag_rule (codes "JSON") (codes "json")

-- `--sarif`
abbrev pub sarif_rule : Rule
sarif_rule = flag_rule (codes "SARIF") (codes "sarif")

-- `--places`
abbrev pub places_rule : Rule
places_rule = flag_rule (codes "PLACES") (codes "places")

-- `--where`
abbrev pub where_rule : Rule
where_rule = flag_rule (codes "WHERE") (codes "where")

-- `YACC`, which is left out with `--yacc`
abbrev pub other_rule : Rule
other_rule = new_rule (codes "YACC")

-- `--yacc`
abbrev pub alone_rule : Rule
alone_rule = flag_rule (codes "GRAMMAR") (codes "yacc")

-- `--strict`
abbrev pub strict_rule : Rule
strict_rule = flag_rule (codes "STRICT") (codes "strict")

-- a subcommand with its arguments
abbrev pub app_with : Text → List Rule → App
app_with name rules = fold with_rule (new_app name) rules

abbrev pub tokens_paths_app : App
tokens_paths_app = app_with (codes "tokens") (path_rule (codes "LEX") ∷ text_rule ∷ [])

abbrev pub tokens_app : App
tokens_app = with_rule (with_rule (with_rule tokens_paths_app by_tables_rule) json_rule) where_rule

-- a subcommand with the paths of a lex file and a yacc file
abbrev pub files_app : Text → App
files_app name = app_with name (path_rule (codes "LEX") ∷ path_rule (codes "YACC") ∷ [])

abbrev pub build_paths_app : App
build_paths_app = with_rule (files_app (codes "build")) (path_rule (codes "TABLES"))

abbrev pub build_app : App
build_app = with_rule (with_rule (with_rule (with_rule build_paths_app report_rule) format_rule) expect_rule) where_rule

abbrev pub run_paths_app : App
run_paths_app = app_with (codes "run") (path_rule (codes "TABLES") ∷ text_rule ∷ [])

abbrev pub run_app : App
run_app = with_rule (with_rule (with_rule (with_rule run_paths_app lines_rule) json_rule) places_rule) where_rule

abbrev pub try_app : App
try_app =
    with_rule (with_rule (with_rule (with_rule (files_app (codes "try")) text_rule) json_rule) places_rule) where_rule

abbrev pub check_app : App
check_app = app_with (codes "check") (path_rule (codes "TABLES") ∷ json_rule ∷ where_rule ∷ [])

abbrev pub explain_paths_app : App
explain_paths_app = app_with (codes "explain")
    (path_rule (codes "LEX") ∷ other_rule ∷ states_rule ∷ graph_rule ∷ [])

abbrev pub explain_forms_app : App
explain_forms_app = with_rule (with_rule (with_rule explain_paths_app alone_rule) json_rule) sarif_rule

abbrev pub explain_app : App
explain_app = with_rule (with_rule explain_forms_app strict_rule) expect_rule

-- the program's name alone, which has a version and requires a subcommand
abbrev pub top_app : App
top_app = record (new_app (codes "lytab")) {
  top = record (new_app (codes "lytab")).top { has_version = true; subcommand_required = true };
}

-- the whole command line
abbrev pub line_app : App
line_app = fold with_subcommand top_app
    (tokens_app.top ∷ build_app.top ∷ run_app.top ∷ try_app.top ∷ check_app.top ∷ explain_app.top ∷ [])

-- `clap` declares the command like this, with no argument that its subcommands share
pub record IsApp (app : App) (command : Command) : Type 0 where
  pub shape : app_of command ≡ app
  pub local : (out-Command command).has_globals ≡ false

-- a flag is among the arguments
abbrev pub is_said : (Text → Option Text) → Text → Bool
is_said value id = option_map_or (λ word. bytes_eq word (codes "true")) (value id) false

-- the form of the output, by `--json`
abbrev pub form_by : (Text → Option Text) → AnswerForm
form_by value = if is_said value (codes "JSON") then Json else Plain

-- the form of the report, by `--json` and `--sarif`, of which at most one may be given
abbrev pub report_form_by : (Text → Option Text) → Option ReportForm
report_form_by value = if is_said value (codes "JSON")
    then if is_said value (codes "SARIF") then None else Some report_form.Json
    else if is_said value (codes "SARIF") then Some report_form.Sarif else Some report_form.Plain

-- how a result is written, by the flags among the arguments
abbrev pub answering_by : (Text → Option Text) → Answering
answering_by value = record {
  form = form_by value;
  points = is_said value (codes "WHERE");
}

-- what a subcommand asks for by the values of its arguments
abbrev pub tokens_by : (Text → Option Text) → Option Request
tokens_by value = option_map (λ path. if is_said value (codes "SCANNER")
    then table_tokens path (value (codes "TEXT")) (answering_by value)
    else tokens path (value (codes "TEXT")) (answering_by value)) (value (codes "LEX"))

-- the version with a number: there are two, and without a number it is the second
abbrev pub version_by : Option Text → Option Version
version_by None = Some V2
version_by (Some number) =
    if bytes_eq number (codes "1") then Some V1
    else if bytes_eq number (codes "2") then Some V2
    else None

-- the number that digits stand for, if a machine word holds it
abbrev pub number_of_digits : Text → Option ℕ
number_of_digits digits =
    if all_ascii_digits digits && (nat_lt 0 (length digits) && nat_lt (digits_value 10 digits) (2 ^ 64))
    then Some (digits_value 10 digits)
    else None

-- the number that a count stands for: digits, which a plus may precede
abbrev pub count_by : Text → Option ℕ
count_by word = number_of_digits (without_leading_plus word)

-- how many conflicts are expected, if a count is given
abbrev pub expected_by : Option Text → Option (Option ℕ)
expected_by None = Some None
expected_by (Some word) = option_map (λ count. Some count) (count_by word)

-- which warnings and conflicts are allowed
abbrev pub strictness_by : (Text → Option Text) → Option Strictness
strictness_by value = option_map (λ expected. record {
  strict = is_said value (codes "STRICT");
  expected = expected;
}) (expected_by (value (codes "COUNT")))

abbrev pub build_by : (Text → Option Text) → Option Request
build_by value = option_and_then (λ lex. option_and_then (λ yacc. option_and_then (λ table_file.
    option_and_then (λ version. option_map (λ expected.
    build lex yacc table_file (value (codes "FILE")) version expected (is_said value (codes "WHERE")))
    (expected_by (value (codes "COUNT")))) (version_by (value (codes "VERSION"))))
    (value (codes "TABLES"))) (value (codes "YACC"))) (value (codes "LEX"))

abbrev pub run_by : (Text → Option Text) → Option Request
run_by value = option_and_then (λ table_file.
    if is_said value (codes "LINES")
    then if is_said value (codes "PLACES") then None
    else Some (lines table_file (value (codes "TEXT")) (answering_by value))
    else if is_said value (codes "PLACES")
    then Some (run_placed table_file (value (codes "TEXT")) (is_said value (codes "WHERE")))
    else Some (run table_file (value (codes "TEXT")) (answering_by value))) (value (codes "TABLES"))

abbrev pub try_by : (Text → Option Text) → Option Request
try_by value = option_and_then (λ lex. option_map (λ yacc. if is_said value (codes "PLACES")
    then try_placed lex yacc (value (codes "TEXT")) (is_said value (codes "WHERE"))
    else try lex yacc (value (codes "TEXT")) (answering_by value)) (value (codes "YACC"))) (value (codes "LEX"))

abbrev pub check_by : (Text → Option Text) → Option Request
check_by value = option_map (λ table_file. check table_file (answering_by value)) (value (codes "TABLES"))

-- a yacc file is checked alone, or both files are
abbrev pub explained : Bool → Text → Option Text → Option Text → Option Text → Strictness → ReportForm → Option Request
explained false lex (Some yacc) states graph strictness form =
    Some (explain (Some lex) yacc states graph strictness form)
explained true yacc None states graph strictness form = Some (explain None yacc states graph strictness form)
explained _ first second states graph strictness form = None

abbrev pub explain_by : (Text → Option Text) → Option Request
explain_by value = option_and_then (λ first. option_and_then (λ form. option_and_then (λ strictness.
    explained (is_said value (codes "GRAMMAR")) first (value (codes "YACC")) (value (codes "STATES"))
    (value (codes "GRAPH")) strictness form) (strictness_by value)) (report_form_by value)) (value (codes "LEX"))

abbrev pub request_named : Text → (Text → Option Text) → Option Request
request_named name value =
    if bytes_eq name (codes "tokens") then tokens_by value
    else if bytes_eq name (codes "build") then build_by value
    else if bytes_eq name (codes "run") then run_by value
    else if bytes_eq name (codes "try") then try_by value
    else if bytes_eq name (codes "check") then check_by value
    else if bytes_eq name (codes "explain") then explain_by value
    else None

abbrev pub request_by : Text × List Row → Option Request
request_by p = request_named p.0 (λ id. first_of id p.1)

-- the subcommand that `clap` finds in the arguments, with its values
unfoldable pub subcommand_in : List Text → Option (Text × List Row)
subcommand_in words = subcommand_of line_app words

-- what the arguments ask for
abbrev pub request_of : List Text → Option Request
request_of words = option_and_then request_by (subcommand_in words)

-- `clap` accepts the arguments
unfoldable pub line_takes : List Text → Bool
line_takes words = takes line_app words

-- the kinds of errors that `clap` may return for the arguments
unfoldable pub line_faults : List Text → Kinds
line_faults words = fault_of line_app words

-- The arguments mean this: `clap` accepts them, and it is what they ask for.
abbrev pub Mean : List Text → Request → Type 0
Mean words request = (line_takes words ≡ true) × (request_of words ≡ Some request)
