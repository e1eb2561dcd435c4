-- Lemmas on the line.
use Rattle.std.proofs.Common.{◌≡◌, ◌∙◌, List, Option, Some, None, true, refl, sym, ap, ap₂, rules}
use Rattle.std.specs.Prelude.{option_and_then, option_map}
use Rattle.clap.specs.Words.{App, Row, Text, first_of, fault_of, is_simple, is_simple_and_free, subcommand_of, takes}
use Rattle.clap.specs.Words.{AddsSubcommand, app_of, first_value, found_of, rows_of, subcommand_name_of}
use Rattle.clap.specs.Words.{subcommand_rows_of}
use Rattle.clap.specs.Words.{with_subcommand}
use Rattle.clap.specs.declared.builder.command.Command.{Command}
use Rattle.clap.proofs.WalkLemmas.{first_value-rows}
use Rattle.clap.specs.declared.parser.matches.Found.{Found}
use Rattle.clap.specs.declared.parser.matches.ArgMatches.{ArgMatches}
use Rattle.clap.proofs.OnLiterals.{clap_on_literals}
use Rattle.ly_cli.specs.CommandLine.{IsApp, line_app, line_faults, line_takes, request_by, request_named}
use Rattle.ly_cli.specs.CommandLine.{subcommand_in}

-- the line is one of which the words give the matches
pub line_is_simple : (a : App) → a ≡ line_app → is_simple a ≡ true
unfolding clap_on_literals
line_is_simple a e = ap is_simple e

-- the line is one of which the words give the kinds of a refusal
pub line_is_free : (a : App) → a ≡ line_app → is_simple_and_free a ≡ true
unfolding clap_on_literals
line_is_free a e = ap is_simple_and_free e

pub found_in : (a : App) (words : List Text) → a ≡ line_app → subcommand_of a words ≡ subcommand_in words
unfolding subcommand_in
found_in a words e = ap (λ x. subcommand_of x words) e

pub faults_in : (a : App) (words : List Text) → a ≡ line_app → fault_of a words ≡ line_faults words
unfolding line_faults
faults_in a words e = ap (λ x. fault_of x words) e

pub taken_in : (a : App) (words : List Text) → a ≡ line_app → takes a words ≡ line_takes words
unfolding line_takes
taken_in a words e = ap (λ x. takes x words) e

-- the subcommand by its two parts
both_parts : (o : Option (Text × List Row)) (t : Text) (rows : List Row) → Some t ≡ option_map (λ p. p.0) o
    → Some rows ≡ option_map (λ p. p.1) o → o ≡ Some (t, rows)
both_parts None t rows h k = search rules
both_parts (Some p) t rows h k = search rules

-- a map after a map
map_twice : {A B C : Type 0} (f : A → B) (g : B → C) (o : Option A)
    → option_map g (option_map f o) ≡ option_map (λ x. g (f x)) o
map_twice f g None = refl
map_twice f g (Some x) = refl

-- the subcommand's name is the first part of what `clap` says of it
name_part : (m : ArgMatches) → subcommand_name_of m ≡ option_map (λ p. p.0) (subcommand_rows_of m)
name_part m = sym (map_twice _ _ _)

-- the values that are found for the arguments, by the rows
values_are : (f : Found) → first_value f ≡ (λ id. first_of id (rows_of f))
values_are f = λ i id. first_value-rows f id i

-- what the matches ask for whose subcommand has this name and these values
pub request_is : (m : ArgMatches) (name found : Text) (values : ArgMatches)
    → Some found ≡ subcommand_name_of m
    → Some (rows_of (found_of values)) ≡ option_map (λ p. p.1) (subcommand_rows_of m) → found ≡ name
    → request_named name (first_value (found_of values)) ≡ option_and_then request_by (subcommand_rows_of m)
request_is m name found values n r e =
    ap (request_named name) (values_are (found_of values)) ∙ ap (λ t. request_by (t, rows_of (found_of values))) (sym e)
    ∙ sym (ap (option_and_then request_by) (both_parts (subcommand_rows_of m) found _ (n ∙ name_part m) r))

-- a subcommand joins the line
pub added : (old sub new : Command) (line app : App) → app_of old ≡ line → IsApp app sub → AddsSubcommand old sub new
    → app_of new ≡ with_subcommand line app.top
added old sub new line app e is adds =
    adds.shape is.local ∙ ap₂ (λ (a b : App). with_subcommand a b.top) e is.shape
