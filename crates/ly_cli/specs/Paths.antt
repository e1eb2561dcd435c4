-- Arguments that are paths, and the arguments that ask for something.
use Rattle.std.specs.Prelude.{◌≡◌, ◌⊎◌, ◌++◌, ◌∷◌, [], ℕ, Bool, List, Option, Some, None, codes, false, map, option_map}
use Rattle.std.specs.Prelude.{true, unwrap_or}
use Rattle.std.specs.List.{flat_map, insert}
use Rattle.clap.specs.Words.{Text}
use Rattle.ly_base.specs.declared.version.Version.{Version}
use Rattle.ly_base.specs.declared.version.Version.TheVariants.{V1, V2}
use Rattle.ly_print.specs.declared.answer_form.AnswerForm.{AnswerForm}
use Rattle.ly_print.specs.declared.answer_form.AnswerForm.TheVariants.{Json, Plain}
use Rattle.ly_cli.specs.CommandLine.{expected_by}
use Rattle.ly_cli.specs.Request.{Request, build, check, explain, lines, run, run_placed, table_tokens}
use Rattle.ly_cli.specs.Request.{tokens, try, try_placed}
use Rattle.ly_cli.specs.declared.command.Answering.{Answering}
use Rattle.ly_cli.specs.declared.command.ReportForm.{ReportForm}
use Rattle.ly_cli.specs.declared.command.ReportForm.TheVariants as report_form

-- an argument that is no option: a single minus sign, or one that doesn't begin with a minus sign
abbrev pub IsPathWord : Text → Type 0
IsPathWord word = (word ≡ codes "-") ⊎ ((rest : Text) → ¬ (word ≡ codes "-" ++ rest))

abbrev pub ArePathWords : List Text → Type 0
ArePathWords [] = Unit {0}
ArePathWords (word ∷ words) = IsPathWord word × ArePathWords words

abbrev pub as_list : Option Text → List Text
as_list None = []
as_list (Some word) = word ∷ []

abbrev pub name_of : Request → Text
name_of (tokens lex text by) = codes "tokens"
name_of (table_tokens table_file text by) = codes "tokens"
name_of (build lex yacc table_file report version expected points) = codes "build"
name_of (run table_file text by) = codes "run"
name_of (lines table_file text by) = codes "run"
name_of (try lex yacc text by) = codes "try"
name_of (run_placed table_file text points) = codes "run"
name_of (try_placed lex yacc text points) = codes "try"
name_of (check table_file by) = codes "check"
name_of (explain lex yacc states graph strictness form) = codes "explain"

-- the arguments that follow the command's name, in this order
abbrev pub operands_of : Request → List Text
operands_of (tokens lex text by) = lex ∷ as_list text
operands_of (table_tokens table_file text by) = table_file ∷ as_list text
operands_of (build lex yacc table_file report version expected points) = lex ∷ yacc ∷ table_file ∷ []
operands_of (run table_file text by) = table_file ∷ as_list text
operands_of (lines table_file text by) = table_file ∷ as_list text
operands_of (try lex yacc text by) = lex ∷ yacc ∷ as_list text
operands_of (run_placed table_file text points) = table_file ∷ as_list text
operands_of (try_placed lex yacc text points) = lex ∷ yacc ∷ as_list text
operands_of (check table_file by) = table_file ∷ []
operands_of (explain lex yacc states graph strictness form) = as_list lex ++ yacc ∷ []

-- the other files that are written
abbrev pub written_of : Request → List Text
written_of (build lex yacc table_file report version expected points) = as_list report
written_of (explain lex yacc states graph strictness form) = as_list states ++ as_list graph
written_of _ = []

-- the version that is given is the one that is meant, which is the second if none is given; `build` has no `--where`
abbrev pub IsMeant : Request → Option Version → Type 0
IsMeant (build lex yacc table_file report version expected points) format =
    (version ≡ unwrap_or format V2) × (points ≡ false)
IsMeant _ format = format ≡ None

-- `--where`, if it is given
abbrev pub pointing_words : Bool → List Text
pointing_words true = codes "--where" ∷ []
pointing_words false = []

-- the flag for a form; plain output has none
abbrev pub form_words : AnswerForm → List Text
form_words Json = codes "--json" ∷ []
form_words Plain = []

-- the flag for the form of a report; text for people has none
abbrev pub report_form_words : ReportForm → List Text
report_form_words report_form.Json = codes "--json" ∷ []
report_form_words report_form.Sarif = codes "--sarif" ∷ []
report_form_words report_form.Plain = []

-- the flags for how a result is written
abbrev pub answering_words : Answering → List Text
answering_words by = form_words by.form ++ pointing_words by.points

-- `--strict`, if it is given
abbrev pub strict_words : Bool → List Text
strict_words true = codes "--strict" ∷ []
strict_words false = []

-- `--yacc`, if a yacc file is checked alone
abbrev pub alone_words : Option Text → List Text
alone_words (Some lex) = []
alone_words None = codes "--yacc" ∷ []

-- `--expect` with its count, if it is given
abbrev pub count_words : Option Text → List Text
count_words None = []
count_words (Some count) = codes "--expect" ∷ count ∷ []

-- the flags before the operands, and the count of conflicts
abbrev pub flags_of : Request → Option Text → List Text
flags_of (tokens lex text by) count = answering_words by
flags_of (table_tokens table_file text by) count = codes "--tables" ∷ answering_words by
flags_of (build lex yacc table_file report version expected points) count = count_words count
flags_of (run table_file text by) count = answering_words by
flags_of (lines table_file text by) count = codes "--lines" ∷ answering_words by
flags_of (try lex yacc text by) count = answering_words by
flags_of (run_placed table_file text points) count = codes "--places" ∷ pointing_words points
flags_of (try_placed lex yacc text points) count = codes "--places" ∷ pointing_words points
flags_of (check table_file by) count = answering_words by
flags_of (explain lex yacc states graph strictness form) count =
    alone_words lex ++ (report_form_words form ++ (strict_words strictness.strict ++ count_words count))

-- how many conflicts are expected
abbrev pub expected_of : Request → Option ℕ
expected_of (build lex yacc table_file report version expected points) = expected
expected_of (explain lex yacc states graph strictness form) = strictness.expected
expected_of _ = None

-- the count that is given is the one that is expected
abbrev pub IsCount : Request → Option Text → Type 0
IsCount request count = (expected_by count ≡ Some (expected_of request)) × ArePathWords (as_list count)

-- no other option is given with a count or a flag of `explain`
abbrev pub StandAlone : Request → Option Text → Option Version → Type 0
StandAlone (build lex yacc table_file report version expected points) count format =
    (count ≡ None) ⊎ ((report ≡ None) × (format ≡ None))
StandAlone (explain None yacc states graph strictness form) count format = (states ≡ None) × (graph ≡ None)
StandAlone (explain (Some lex) yacc states graph strictness form) count format =
    ((strictness.strict ≡ false) × (count ≡ None) × (form ≡ report_form.Plain)) ⊎ ((states ≡ None) × (graph ≡ None))
StandAlone _ count format = Unit {0}

-- the number of a version
abbrev pub number_of : Version → Text
number_of V1 = codes "1"
number_of V2 = codes "2"

-- an option with its value, if it has one
abbrev pub option_words : Text → Option Text → Option (List Text)
option_words name value = option_map (λ v. name ∷ v ∷ []) value

-- the first option of a command, if it is given
abbrev pub first_option : Request → Option (List Text)
first_option (build lex yacc table_file report version expected points) = option_words (codes "--report") report
first_option (explain lex yacc states graph strictness form) = option_words (codes "--states") states
first_option _ = None

-- the second option, if this version is given
abbrev pub second_option : Request → Option Version → Option (List Text)
second_option (build lex yacc table_file report version expected points) format =
    option_words (codes "--format") (option_map number_of format)
second_option (explain lex yacc states graph strictness form) format = option_words (codes "--graph") graph
second_option _ format = None

-- the arguments of an option inserted after this many groups of arguments, or nothing inserted
abbrev pub with_option : ℕ → Option (List Text) → List (List Text) → List (List Text)
with_option place None groups = groups
with_option place (Some words) groups = insert groups place words

-- the arguments after the command's name: the operands, with the first option before, among or after them, and the
-- second one before, among or after all of these
abbrev pub words_at : ℕ → ℕ → Request → Option Version → List Text
words_at first_place second_place request format = flat_map (λ group. group)
    (with_option second_place (second_option request format)
    (with_option first_place (first_option request) (map (λ word. word ∷ []) (operands_of request))))

-- The arguments ask for this. They are the program's name, the command's name, the flags and the operands, with the
-- options anywhere among these, and all their paths are valid as paths. (Arguments in other forms may mean it too: a
-- flag after the operands, `--where` of `build`, or a count with other options.)
pub record AskFor (words : List Text) (request : Request) : Type 0 where
  pub program : Text
  pub first_place : ℕ
  pub second_place : ℕ
  -- the version that is given, if any
  pub format : Option Version
  pub format_is_meant : IsMeant request format
  -- the count of conflicts that is given, if any
  pub count : Option Text
  pub is_count : IsCount request count
  pub alone : StandAlone request count format
  pub words_are : words
      ≡ program ∷ name_of request ∷ (flags_of request count ++ words_at first_place second_place request format)
  pub operand_paths : ArePathWords (operands_of request)
  pub written_paths : ArePathWords (written_of request)
