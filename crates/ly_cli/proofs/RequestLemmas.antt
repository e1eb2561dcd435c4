-- The words that ask for something are taken, and ask for just that.
use Rattle.std.proofs.Common.{◌≡◌, ◌∙◌, ◌++◌, ◌∷◌, [], List, ℕ, zero, suc, Some, None, true, refl, sym, ap}
use Rattle.std.proofs.Common.{Bool, Err, IsErrAnd, MatchResult, Ok, Option, Result, ap₂, arith, codes, drop, false}
use Rattle.std.proofs.Common.{find, inl, inr, is_some}
use Rattle.std.proofs.Common.{map, option_and_then, option_map, slice_index, subst, take, true≢false, unwrap_or}
use Rattle.std.specs.List.{flat_map, insert}
use Rattle.clap.specs.Walk.{Text, answers_to, finished, nothing_held, walk_from}
use Rattle.clap.specs.Simple.{Shape, built, help_shape, label_of}
use Rattle.clap.proofs.OnLiterals.{clap_on_literals}
use Rattle.ly_base.specs.declared.version.Version.{Version}
use Rattle.ly_base.specs.declared.version.Version.TheVariants.{V1, V2}
use Rattle.ly_cli.specs.CommandLine.{expected_by, line_app, line_takes, request_by, request_of, subcommand_in}
use Rattle.ly_cli.specs.CommandLine.{version_by}
use Rattle.ly_print.specs.declared.answer_form.AnswerForm.{AnswerForm}
use Rattle.ly_print.specs.declared.answer_form.AnswerForm.TheVariants.{Json, Plain}
use Rattle.ly_cli.specs.Paths.{ArePathWords, AskFor, IsCount, IsMeant, IsPathWord, StandAlone, as_list, count_words}
use Rattle.ly_cli.specs.Paths.{flags_of, form_words, name_of, number_of, operands_of, pointing_words, strict_words}
use Rattle.ly_cli.specs.Paths.{report_form_words, words_at, written_of}
use Rattle.ly_cli.specs.Request.{Request, build, check, explain, lines, run, run_placed, table_tokens}
use Rattle.ly_cli.specs.Request.{tokens, try, try_placed}
use Rattle.ly_cli.specs.declared.command.ReportForm.{ReportForm}
use Rattle.ly_cli.specs.declared.command.ReportForm.TheVariants as report_form
use Rattle.ly_cli.specs.declared.command.Strictness.{Strictness}
use Rattle.ly_cli.proofs.PathLemmas.{AreWords, IsLongName, Word, all_taken, held_after, level_taken, long, path}
use Rattle.ly_cli.proofs.PathLemmas.{rest_passes, rows_are, text_of}
use Rattle.ly_cli.proofs.SubcommandLemmas.{Enters, line_passes, subcommand_rows_are}

-- the subcommand of this name once it is built
abbrev shape_at : Text → Shape
shape_at name = unwrap_or (find (λ s. answers_to name (label_of s)) (built line_app).subs) help_shape

-- the words behind the command's name are taken, and ask for the request
record Asks (request : Request) (words : List Word) : Type 0 where
  are : AreWords words
  each : all_taken (shape_at (name_of request)) (walk_from nothing_held) words ≡ true
  rest : rest_passes (shape_at (name_of request)) (held_after (shape_at (name_of request)) words) false ≡ true
  found : request_by (
    (shape_at (name_of request)).name,
    finished (shape_at (name_of request)).rules (held_after (shape_at (name_of request)) words),
  ) ≡ Some request

enters : (request : Request) → Enters line_app (name_of request) (shape_at (name_of request))
unfolding clap_on_literals
enters (tokens lex text by) =
    record { simple = refl; has_name = refl; met = refl; passes = refl; found = refl; rest = refl }
enters (table_tokens table_file text by) =
    record { simple = refl; has_name = refl; met = refl; passes = refl; found = refl; rest = refl }
enters (build lex yacc table_file report version expected points) =
    record { simple = refl; has_name = refl; met = refl; passes = refl; found = refl; rest = refl }
enters (run table_file text by) =
    record { simple = refl; has_name = refl; met = refl; passes = refl; found = refl; rest = refl }
enters (lines table_file text by) =
    record { simple = refl; has_name = refl; met = refl; passes = refl; found = refl; rest = refl }
enters (try lex yacc text by) =
    record { simple = refl; has_name = refl; met = refl; passes = refl; found = refl; rest = refl }
enters (run_placed table_file text points) =
    record { simple = refl; has_name = refl; met = refl; passes = refl; found = refl; rest = refl }
enters (try_placed lex yacc text points) =
    record { simple = refl; has_name = refl; met = refl; passes = refl; found = refl; rest = refl }
enters (check table_file by) =
    record { simple = refl; has_name = refl; met = refl; passes = refl; found = refl; rest = refl }
enters (explain lex yacc states graph strictness form) =
    record { simple = refl; has_name = refl; met = refl; passes = refl; found = refl; rest = refl }

-- the same words as `clap` meets them
record Met (request : Request) (texts : List Text) : Type 0 where
  words : List Word
  texts_are : map text_of words ≡ texts
  asks : Asks request words

-- groups of words, as an option with its value
abbrev AreGroups : List (List Word) → Type 0
AreGroups [] = Unit {0}
AreGroups (group ∷ groups) = AreWords group × AreGroups groups

are_together : (xs ys : List Word) → AreWords xs → AreWords ys → AreWords (xs ++ ys)
are_together [] ys a b = b
are_together (x ∷ xs) ys a b = (a.0, are_together xs ys a.1 b)

are_words : (groups : List (List Word)) → AreGroups groups → AreWords (flat_map (λ group. group) groups)
are_words [] a = tt
are_words (group ∷ groups) a = are_together group _ a.0 (are_words groups a.1)

are_inserted : (groups : List (List Word)) (place : ℕ) (group : List Word) → AreGroups groups → AreWords group
    → AreGroups (insert groups place group)
are_inserted groups zero group a b = (b, a)
are_inserted [] (suc place) group a b = (b, tt)
are_inserted (first ∷ groups) (suc place) group a b = (a.0, are_inserted groups place group a.1 b)

-- behind the last of two, three or four stands what stands behind more
abbrev within_two : ℕ → ℕ
within_two zero = 0
within_two (suc zero) = 1
within_two (suc (suc place)) = 2

abbrev within_three : ℕ → ℕ
within_three zero = 0
within_three (suc zero) = 1
within_three (suc (suc zero)) = 2
within_three (suc (suc (suc place))) = 3

abbrev within_four : ℕ → ℕ
within_four zero = 0
within_four (suc place) = suc (within_three place)

take_none : {X : Type 0} (place : ℕ) → take {A = X} place [] ≡ []
take_none zero = refl
take_none (suc place) = refl

drop_none : {X : Type 0} (place : ℕ) → drop {A = X} place [] ≡ []
drop_none zero = refl
drop_none (suc place) = refl

behind_all : {X : Type 0} (place : ℕ) (x : X) → insert [] place x ≡ x ∷ []
behind_all {X} place x = ap₂ (λ (front back : List X). front ++ x ∷ back) (take_none place) (drop_none place)

insert_two : {X : Type 0} (a b x : X) (place : ℕ)
    → insert (a ∷ b ∷ []) (within_two place) x ≡ insert (a ∷ b ∷ []) place x
insert_two a b x zero = refl
insert_two a b x (suc zero) = refl
insert_two {X} a b x (suc (suc place)) = ap (λ (l : List X). a ∷ b ∷ l) (sym (behind_all place x))

insert_three : {X : Type 0} (a b c x : X) (place : ℕ)
    → insert (a ∷ b ∷ c ∷ []) (within_three place) x ≡ insert (a ∷ b ∷ c ∷ []) place x
insert_three a b c x zero = refl
insert_three a b c x (suc zero) = refl
insert_three a b c x (suc (suc zero)) = refl
insert_three {X} a b c x (suc (suc (suc place))) = ap (λ (l : List X). a ∷ b ∷ c ∷ l) (sym (behind_all place x))

insert_four : {X : Type 0} (a b c d x : X) (place : ℕ)
    → insert (a ∷ b ∷ c ∷ d ∷ []) (within_four place) x ≡ insert (a ∷ b ∷ c ∷ d ∷ []) place x
insert_four a b c d x zero = refl
insert_four {X} a b c d x (suc place) = ap (λ (l : List X). a ∷ l) (insert_three b c d x place)

-- the same of two that are put among three
insert_both : {X : Type 0} (a b c x y : X) (i j : ℕ)
    → insert (insert (a ∷ b ∷ c ∷ []) (within_three i) x) (within_four j) y ≡ insert (insert (a ∷ b ∷ c ∷ []) i x) j y
insert_both a b c x y zero j = insert_four x a b c y j
insert_both a b c x y (suc zero) j = insert_four a x b c y j
insert_both a b c x y (suc (suc zero)) j = insert_four a b x c y j
insert_both {X} a b c x y (suc (suc (suc i))) j =
    insert_four a b c x y j ∙ ap (λ (l : List X). insert l j y) (insert_three a b c x (suc (suc (suc i))))

-- the same of two that are put among two
insert_both_in_two : {X : Type 0} (a b x y : X) (i j : ℕ)
    → insert (insert (a ∷ b ∷ []) (within_two i) x) (within_three j) y ≡ insert (insert (a ∷ b ∷ []) i x) j y
insert_both_in_two a b x y zero j = insert_three x a b y j
insert_both_in_two a b x y (suc zero) j = insert_three a x b y j
insert_both_in_two {X} a b x y (suc (suc i)) j =
    insert_three a b x y j ∙ ap (λ (l : List X). insert l j y) (insert_two a b x (suc (suc i)))

-- where files are only accepted or refused
abbrev unasked : Strictness
unasked = record { strict = false; expected = None }

report_name : IsLongName (codes "report")
report_name = record { is_read = refl; no_dashes = refl }

format_name : IsLongName (codes "format")
format_name = record { is_read = refl; no_dashes = refl }

states_name : IsLongName (codes "states")
states_name = record { is_read = refl; no_dashes = refl }

graph_name : IsLongName (codes "graph")
graph_name = record { is_read = refl; no_dashes = refl }

met : {request : Request} {texts : List Text} (words : List Word) → AreWords words → map text_of words ≡ texts
    → all_taken (shape_at (name_of request)) (walk_from nothing_held) words ≡ true
    → rest_passes (shape_at (name_of request)) (held_after (shape_at (name_of request)) words) false ≡ true
    → request_by (
      (shape_at (name_of request)).name,
      finished (shape_at (name_of request)).rules (held_after (shape_at (name_of request)) words),
    ) ≡ Some request → Met request texts
met words are texts each rest found = record {
  words = words;
  texts_are = texts;
  asks = record { are = are; each = each; rest = rest; found = found };
}

-- The words of `build` with its options, wherever they stand.
module _ (lex yacc table_file : Text) (paths : IsPathWord lex × IsPathWord yacc × IsPathWord table_file)
    (version : Version) where
  abbrev operands : List (List Text)
  operands = (lex ∷ []) ∷ (yacc ∷ []) ∷ (table_file ∷ []) ∷ []

  abbrev operand_words : List (List Word)
  operand_words = (path lex ∷ []) ∷ (path yacc ∷ []) ∷ (path table_file ∷ []) ∷ []

  operands_are : AreGroups operand_words
  operands_are = ((paths.0, tt), ((paths.1, tt), ((paths.2, tt), tt)))

  module _ (number : Text) (n : IsPathWord number) (is : version_by (Some number) ≡ Some version) where
    abbrev formatted : ℕ → List (List Word) → List (List Word)
    formatted place groups = insert groups place (long (codes "format") ∷ path number ∷ [])

    formatted_are : (place : ℕ) (groups : List (List Word)) → AreGroups groups
        → AreWords (flat_map (λ group. group) (formatted place groups))
    formatted_are place groups a =
        are_words (formatted place groups) (are_inserted groups place _ a (format_name, (n, tt)))

    -- a version is said, and no report
    abbrev format_words : ℕ → List Word
    format_words j = flat_map (λ group. group) (formatted j operand_words)

    format_are : (j : ℕ) → AreWords (format_words j)
    format_are j = formatted_are j operand_words operands_are

    format_asks : option_and_then (λ v. Some (build lex yacc table_file None v None false)) (version_by (Some number))
        ≡ Some (build lex yacc table_file None version None false)
    format_asks = ap (option_and_then (λ v. Some (build lex yacc table_file None v None false))) is

    format_met : (j : ℕ) → Met (build lex yacc table_file None version None false)
        (flat_map (λ group. group) (insert operands (within_three j) (codes "--format" ∷ number ∷ [])))
    format_met zero = met (format_words 0) (format_are 0) refl refl refl format_asks
    format_met (suc zero) = met (format_words 1) (format_are 1) refl refl refl format_asks
    format_met (suc (suc zero)) = met (format_words 2) (format_are 2) refl refl refl format_asks
    format_met (suc (suc (suc j))) = met (format_words 3) (format_are 3) refl refl refl format_asks

    -- both are said
    module _ (file : Text) (f : IsPathWord file) where
      abbrev reported : ℕ → List (List Word)
      reported place = insert operand_words place (long (codes "report") ∷ path file ∷ [])

      abbrev both : ℕ → ℕ → List Word
      both i j = flat_map (λ group. group) (formatted j (reported i))

      both_are : (i j : ℕ) → AreWords (both i j)
      both_are i j = formatted_are j (reported i) (are_inserted operand_words i _ operands_are (report_name, (f, tt)))

      both_ask : option_and_then (λ v. Some (build lex yacc table_file (Some file) v None false))
          (version_by (Some number))
          ≡ Some (build lex yacc table_file (Some file) version None false)
      both_ask = ap (option_and_then (λ v. Some (build lex yacc table_file (Some file) v None false))) is

      both_met : (i j : ℕ) → Met (build lex yacc table_file (Some file) version None false)
          (flat_map (λ group. group) (insert (insert operands (within_three i) (codes "--report" ∷ file ∷ []))
          (within_four j) (codes "--format" ∷ number ∷ [])))
      both_met zero zero = met (both 0 0) (both_are 0 0) refl refl refl both_ask
      both_met zero (suc zero) = met (both 0 1) (both_are 0 1) refl refl refl both_ask
      both_met zero (suc (suc zero)) = met (both 0 2) (both_are 0 2) refl refl refl both_ask
      both_met zero (suc (suc (suc zero))) = met (both 0 3) (both_are 0 3) refl refl refl both_ask
      both_met zero (suc (suc (suc (suc j)))) = met (both 0 4) (both_are 0 4) refl refl refl both_ask
      both_met (suc zero) zero = met (both 1 0) (both_are 1 0) refl refl refl both_ask
      both_met (suc zero) (suc zero) = met (both 1 1) (both_are 1 1) refl refl refl both_ask
      both_met (suc zero) (suc (suc zero)) = met (both 1 2) (both_are 1 2) refl refl refl both_ask
      both_met (suc zero) (suc (suc (suc zero))) = met (both 1 3) (both_are 1 3) refl refl refl both_ask
      both_met (suc zero) (suc (suc (suc (suc j)))) = met (both 1 4) (both_are 1 4) refl refl refl both_ask
      both_met (suc (suc zero)) zero = met (both 2 0) (both_are 2 0) refl refl refl both_ask
      both_met (suc (suc zero)) (suc zero) = met (both 2 1) (both_are 2 1) refl refl refl both_ask
      both_met (suc (suc zero)) (suc (suc zero)) = met (both 2 2) (both_are 2 2) refl refl refl both_ask
      both_met (suc (suc zero)) (suc (suc (suc zero))) = met (both 2 3) (both_are 2 3) refl refl refl both_ask
      both_met (suc (suc zero)) (suc (suc (suc (suc j)))) = met (both 2 4) (both_are 2 4) refl refl refl both_ask
      both_met (suc (suc (suc i))) zero = met (both 3 0) (both_are 3 0) refl refl refl both_ask
      both_met (suc (suc (suc i))) (suc zero) = met (both 3 1) (both_are 3 1) refl refl refl both_ask
      both_met (suc (suc (suc i))) (suc (suc zero)) = met (both 3 2) (both_are 3 2) refl refl refl both_ask
      both_met (suc (suc (suc i))) (suc (suc (suc zero))) = met (both 3 3) (both_are 3 3) refl refl refl both_ask
      both_met (suc (suc (suc i))) (suc (suc (suc (suc j)))) = met (both 3 4) (both_are 3 4) refl refl refl both_ask

  -- a report is asked for, and no version said
  module _ (file : Text) (f : IsPathWord file) (is : version_by None ≡ Some version) where
    abbrev report_groups : ℕ → List (List Word)
    report_groups place = insert operand_words place (long (codes "report") ∷ path file ∷ [])

    abbrev report_words : ℕ → List Word
    report_words i = flat_map (λ group. group) (report_groups i)

    report_are : (i : ℕ) → AreWords (report_words i)
    report_are i = are_words (report_groups i) (are_inserted operand_words i _ operands_are (report_name, (f, tt)))

    report_asks : option_and_then (λ v. Some (build lex yacc table_file (Some file) v None false)) (version_by None)
        ≡ Some (build lex yacc table_file (Some file) version None false)
    report_asks = ap (option_and_then (λ v. Some (build lex yacc table_file (Some file) v None false))) is

    report_met : (i : ℕ) → Met (build lex yacc table_file (Some file) version None false)
        (flat_map (λ group. group) (insert operands (within_three i) (codes "--report" ∷ file ∷ [])))
    report_met zero = met (report_words 0) (report_are 0) refl refl refl report_asks
    report_met (suc zero) = met (report_words 1) (report_are 1) refl refl refl report_asks
    report_met (suc (suc zero)) = met (report_words 2) (report_are 2) refl refl refl report_asks
    report_met (suc (suc (suc i))) = met (report_words 3) (report_are 3) refl refl refl report_asks

-- the numbers say the versions, and are no options
number_says : (version : Version) → version_by (Some (number_of version)) ≡ Some version
number_says V1 = refl
number_says V2 = refl

no_minus : (first : ℕ) → (first ≡ 45 → ⊥) → IsPathWord (first ∷ [])
no_minus first other = inr (λ rest e. other (ap (λ (word : Text). slice_index word 0) e))

number_is_word : (version : Version) → IsPathWord (number_of version)
number_is_word V1 = no_minus 49 (λ e. absurd (omega arith))
number_is_word V2 = no_minus 50 (λ e. absurd (omega arith))

-- the words of `build`
build_met : (lex yacc table_file : Text) (report : Option Text) (version : Version) (i j : ℕ) (format : Option Version)
    → version ≡ unwrap_or format V2 → IsPathWord lex × IsPathWord yacc × IsPathWord table_file
    → ArePathWords (as_list report)
    → Met (build lex yacc table_file report version None false)
    (words_at i j (build lex yacc table_file report version None false) format)
build_met lex yacc table_file None version i j None e paths r =
    met (path lex ∷ path yacc ∷ path table_file ∷ []) (paths.0, (paths.1, (paths.2, tt))) refl refl refl
    (ap (λ v. Some (build lex yacc table_file None v None false)) (sym e))
build_met lex yacc table_file None version i j (Some v) e paths r =
    subst (λ groups. Met (build lex yacc table_file None version None false) (flat_map (λ group. group) groups))
    (insert_three (lex ∷ []) (yacc ∷ []) (table_file ∷ []) (codes "--format" ∷ number_of v ∷ []) j)
    (format_met lex yacc table_file paths version (number_of v) (number_is_word v)
    (number_says v ∙ ap (λ w. Some w) (sym e)) j)
build_met lex yacc table_file (Some file) version i j None e paths r =
    subst (λ groups. Met (build lex yacc table_file (Some file) version None false) (flat_map (λ group. group) groups))
    (insert_three (lex ∷ []) (yacc ∷ []) (table_file ∷ []) (codes "--report" ∷ file ∷ []) i)
    (report_met lex yacc table_file paths version file r.0 (ap (λ w. Some w) (sym e)) i)
build_met lex yacc table_file (Some file) version i j (Some v) e paths r =
    subst (λ groups. Met (build lex yacc table_file (Some file) version None false) (flat_map (λ group. group) groups))
    (insert_both (lex ∷ []) (yacc ∷ []) (table_file ∷ []) (codes "--report" ∷ file ∷ [])
    (codes "--format" ∷ number_of v ∷ []) i j)
    (both_met lex yacc table_file paths version (number_of v) (number_is_word v)
    (number_says v ∙ ap (λ w. Some w) (sym e)) file r.0 i j)

-- The words of `explain` with its options, wherever they stand.
module _ (lex yacc : Text) (paths : IsPathWord lex × IsPathWord yacc) where
  abbrev file_names : List (List Text)
  file_names = (lex ∷ []) ∷ (yacc ∷ []) ∷ []

  abbrev file_words : List (List Word)
  file_words = (path lex ∷ []) ∷ (path yacc ∷ []) ∷ []

  files_are : AreGroups file_words
  files_are = ((paths.0, tt), ((paths.1, tt), tt))

  module _ (picture : Text) (p : IsPathWord picture) where
    abbrev drawn : ℕ → List (List Word) → List (List Word)
    drawn place groups = insert groups place (long (codes "graph") ∷ path picture ∷ [])

    drawn_are : (place : ℕ) (groups : List (List Word)) → AreGroups groups
        → AreWords (flat_map (λ group. group) (drawn place groups))
    drawn_are place groups a = are_words (drawn place groups) (are_inserted groups place _ a (graph_name, (p, tt)))

    -- a picture is asked for, and no states
    abbrev graph_words : ℕ → List Word
    graph_words j = flat_map (λ group. group) (drawn j file_words)

    graph_are : (j : ℕ) → AreWords (graph_words j)
    graph_are j = drawn_are j file_words files_are

    graph_met : (j : ℕ) → Met (explain (Some lex) yacc None (Some picture) unasked report_form.Plain)
        (flat_map (λ group. group) (insert file_names (within_two j) (codes "--graph" ∷ picture ∷ [])))
    graph_met zero = met (graph_words 0) (graph_are 0) refl refl refl refl
    graph_met (suc zero) = met (graph_words 1) (graph_are 1) refl refl refl refl
    graph_met (suc (suc j)) = met (graph_words 2) (graph_are 2) refl refl refl refl

    -- both are asked for
    module _ (file : Text) (f : IsPathWord file) where
      abbrev listed : ℕ → List (List Word)
      listed place = insert file_words place (long (codes "states") ∷ path file ∷ [])

      abbrev all_words : ℕ → ℕ → List Word
      all_words i j = flat_map (λ group. group) (drawn j (listed i))

      all_are : (i j : ℕ) → AreWords (all_words i j)
      all_are i j = drawn_are j (listed i) (are_inserted file_words i _ files_are (states_name, (f, tt)))

      all_met : (i j : ℕ) → Met (explain (Some lex) yacc (Some file) (Some picture) unasked report_form.Plain)
          (flat_map (λ group. group) (insert (insert file_names (within_two i) (codes "--states" ∷ file ∷ []))
          (within_three j) (codes "--graph" ∷ picture ∷ [])))
      all_met zero zero = met (all_words 0 0) (all_are 0 0) refl refl refl refl
      all_met zero (suc zero) = met (all_words 0 1) (all_are 0 1) refl refl refl refl
      all_met zero (suc (suc zero)) = met (all_words 0 2) (all_are 0 2) refl refl refl refl
      all_met zero (suc (suc (suc j))) = met (all_words 0 3) (all_are 0 3) refl refl refl refl
      all_met (suc zero) zero = met (all_words 1 0) (all_are 1 0) refl refl refl refl
      all_met (suc zero) (suc zero) = met (all_words 1 1) (all_are 1 1) refl refl refl refl
      all_met (suc zero) (suc (suc zero)) = met (all_words 1 2) (all_are 1 2) refl refl refl refl
      all_met (suc zero) (suc (suc (suc j))) = met (all_words 1 3) (all_are 1 3) refl refl refl refl
      all_met (suc (suc i)) zero = met (all_words 2 0) (all_are 2 0) refl refl refl refl
      all_met (suc (suc i)) (suc zero) = met (all_words 2 1) (all_are 2 1) refl refl refl refl
      all_met (suc (suc i)) (suc (suc zero)) = met (all_words 2 2) (all_are 2 2) refl refl refl refl
      all_met (suc (suc i)) (suc (suc (suc j))) = met (all_words 2 3) (all_are 2 3) refl refl refl refl

  -- states are asked for, and no picture
  module _ (file : Text) (f : IsPathWord file) where
    abbrev states_groups : ℕ → List (List Word)
    states_groups place = insert file_words place (long (codes "states") ∷ path file ∷ [])

    abbrev states_words : ℕ → List Word
    states_words i = flat_map (λ group. group) (states_groups i)

    states_are : (i : ℕ) → AreWords (states_words i)
    states_are i = are_words (states_groups i) (are_inserted file_words i _ files_are (states_name, (f, tt)))

    states_met : (i : ℕ) → Met (explain (Some lex) yacc (Some file) None unasked report_form.Plain)
        (flat_map (λ group. group) (insert file_names (within_two i) (codes "--states" ∷ file ∷ [])))
    states_met zero = met (states_words 0) (states_are 0) refl refl refl refl
    states_met (suc zero) = met (states_words 1) (states_are 1) refl refl refl refl
    states_met (suc (suc i)) = met (states_words 2) (states_are 2) refl refl refl refl

-- the words of `explain`
explain_met : (lex yacc : Text) (states graph : Option Text) (i j : ℕ) (format : Option Version)
    → IsPathWord lex × IsPathWord yacc → ArePathWords (as_list states ++ as_list graph)
    → Met (explain (Some lex) yacc states graph unasked report_form.Plain)
    (words_at i j (explain (Some lex) yacc states graph unasked report_form.Plain) format)
explain_met lex yacc None None i j format paths r =
    met (path lex ∷ path yacc ∷ []) (paths.0, (paths.1, tt)) refl refl refl refl
explain_met lex yacc None (Some picture) i j format paths r =
    subst (λ groups. Met (explain (Some lex) yacc None (Some picture) unasked report_form.Plain)
    (flat_map (λ group. group) groups))
    (insert_two (lex ∷ []) (yacc ∷ []) (codes "--graph" ∷ picture ∷ []) j)
    (graph_met lex yacc paths picture r.0 j)
explain_met lex yacc (Some file) None i j format paths r =
    subst (λ groups. Met (explain (Some lex) yacc (Some file) None unasked report_form.Plain)
    (flat_map (λ group. group) groups))
    (insert_two (lex ∷ []) (yacc ∷ []) (codes "--states" ∷ file ∷ []) i)
    (states_met lex yacc paths file r.0 i)
explain_met lex yacc (Some file) (Some picture) i j format paths r =
    subst (λ groups. Met (explain (Some lex) yacc (Some file) (Some picture) unasked report_form.Plain)
    (flat_map (λ group. group) groups))
    (insert_both_in_two (lex ∷ []) (yacc ∷ []) (codes "--states" ∷ file ∷ []) (codes "--graph" ∷ picture ∷ []) i j)
    (all_met lex yacc paths picture r.1.0 file r.0 i j)

expect_name : IsLongName (codes "expect")
expect_name = record { is_read = refl; no_dashes = refl }

strict_name : IsLongName (codes "strict")
strict_name = record { is_read = refl; no_dashes = refl }

json_name : IsLongName (codes "json")
json_name = record { is_read = refl; no_dashes = refl }

sarif_name : IsLongName (codes "sarif")
sarif_name = record { is_read = refl; no_dashes = refl }

-- a count that is said
count_said : {A B : Type 0} (f : A → B) (o : Option A) (x : A) → o ≡ Some x → option_map f o ≡ Some (f x)
count_said f o x is = ap (option_map f) is

-- the words of `build` with a count
counted_build_met : (lex yacc table_file count : Text) (expected : Option ℕ) → expected_by (Some count) ≡ Some expected
    → IsPathWord count → IsPathWord lex × IsPathWord yacc × IsPathWord table_file
    → Met (build lex yacc table_file None V2 expected false)
    (codes "--expect" ∷ count ∷ lex ∷ yacc ∷ table_file ∷ [])
counted_build_met lex yacc table_file count expected is c paths =
    met (long (codes "expect") ∷ path count ∷ path lex ∷ path yacc ∷ path table_file ∷ [])
    (expect_name, (c, (paths.0, (paths.1, (paths.2, tt))))) refl refl refl
    (count_said (λ e. build lex yacc table_file None V2 e false) (expected_by (Some count)) expected is)

-- the words of `build`, with a count if one is said
build_at : (lex yacc table_file : Text) (report : Option Text) (version : Version) (expected : Option ℕ) (i j : ℕ)
    (format : Option Version) (count : Option Text) → version ≡ unwrap_or format V2
    → IsCount (build lex yacc table_file report version expected false) count
    → StandAlone (build lex yacc table_file report version expected false) count format
    → IsPathWord lex × IsPathWord yacc × IsPathWord table_file → ArePathWords (as_list report)
    → Met (build lex yacc table_file report version expected false)
    (count_words count ++ words_at i j (build lex yacc table_file report version expected false) format)
build_at lex yacc table_file report version (Some n) i j format None e says alone paths r =
    absurd (true≢false (sym (ap (λ o. is_some (unwrap_or o None)) says.0)))
build_at lex yacc table_file report version None i j format None e says alone paths r =
    build_met lex yacc table_file report version i j format e paths r
build_at lex yacc table_file report version expected i j format (Some count) e says (inl none) paths r =
    absurd (true≢false (ap is_some none))
build_at lex yacc table_file None V2 expected i j None (Some count) e says (inr alone) paths r =
    counted_build_met lex yacc table_file count expected says.0 says.1.0 paths
build_at lex yacc table_file None V1 expected i j None (Some count) e says (inr alone) paths r = absurd cc
build_at lex yacc table_file (Some file) version expected i j format (Some count) e says (inr alone) paths r =
    absurd (true≢false (ap is_some alone.0))
build_at lex yacc table_file None version expected i j (Some v) (Some count) e says (inr alone) paths r =
    absurd (true≢false (ap is_some alone.1))

-- how files are judged with a count, and what is asked for then
strictness_asked : (lex : Option Text) (yacc : Text) (strict : Bool) (form : ReportForm) (o : Option (Option ℕ))
    (expected : Option ℕ) → o ≡ Some expected
    → option_and_then (λ (d : Strictness). Some (explain lex yacc None None d form))
    (option_map (λ (e : Option ℕ). record { strict = strict; expected = e }) o)
    ≡ Some (explain lex yacc None None (record { strict = strict; expected = expected }) form)
strictness_asked lex yacc strict form o expected is = rw is refl

-- the words of `explain` with a count
counted_explain_met : (lex yacc count : Text) (strict : Bool) (form : ReportForm) (expected : Option ℕ)
    → expected_by (Some count) ≡ Some expected → IsPathWord count → IsPathWord lex × IsPathWord yacc
    → Met (explain (Some lex) yacc None None (record { strict = strict; expected = expected }) form)
    (report_form_words form ++ (strict_words strict ++ codes "--expect" ∷ count ∷ lex ∷ yacc ∷ []))
counted_explain_met lex yacc count true report_form.Plain expected is c paths =
    met (long (codes "strict") ∷ long (codes "expect") ∷ path count ∷ path lex ∷ path yacc ∷ [])
    (strict_name, (expect_name, (c, (paths.0, (paths.1, tt))))) refl refl refl
    (strictness_asked (Some lex) yacc true report_form.Plain (expected_by (Some count)) expected is)
counted_explain_met lex yacc count false report_form.Plain expected is c paths =
    met (long (codes "expect") ∷ path count ∷ path lex ∷ path yacc ∷ [])
    (expect_name, (c, (paths.0, (paths.1, tt)))) refl refl refl
    (strictness_asked (Some lex) yacc false report_form.Plain (expected_by (Some count)) expected is)
counted_explain_met lex yacc count true report_form.Json expected is c paths =
    met (long (codes "json") ∷ long (codes "strict") ∷ long (codes "expect") ∷ path count ∷ path lex ∷ path yacc ∷ [])
    (json_name, (strict_name, (expect_name, (c, (paths.0, (paths.1, tt)))))) refl refl refl
    (strictness_asked (Some lex) yacc true report_form.Json (expected_by (Some count)) expected is)
counted_explain_met lex yacc count true report_form.Sarif expected is c paths =
    met (long (codes "sarif") ∷ long (codes "strict") ∷ long (codes "expect") ∷ path count ∷ path lex ∷ path yacc ∷ [])
    (sarif_name, (strict_name, (expect_name, (c, (paths.0, (paths.1, tt)))))) refl refl refl
    (strictness_asked (Some lex) yacc true report_form.Sarif (expected_by (Some count)) expected is)
counted_explain_met lex yacc count false report_form.Json expected is c paths =
    met (long (codes "json") ∷ long (codes "expect") ∷ path count ∷ path lex ∷ path yacc ∷ [])
    (json_name, (expect_name, (c, (paths.0, (paths.1, tt))))) refl refl refl
    (strictness_asked (Some lex) yacc false report_form.Json (expected_by (Some count)) expected is)
counted_explain_met lex yacc count false report_form.Sarif expected is c paths =
    met (long (codes "sarif") ∷ long (codes "expect") ∷ path count ∷ path lex ∷ path yacc ∷ [])
    (sarif_name, (expect_name, (c, (paths.0, (paths.1, tt))))) refl refl refl
    (strictness_asked (Some lex) yacc false report_form.Sarif (expected_by (Some count)) expected is)

-- the words of `explain` for a grammar by itself
alone_name : IsLongName (codes "yacc")
alone_name = record { is_read = refl; no_dashes = refl }

counted_alone_met : (yacc count : Text) (strict : Bool) (form : ReportForm) (expected : Option ℕ)
    → expected_by (Some count) ≡ Some expected → IsPathWord count → IsPathWord yacc
    → Met (explain None yacc None None (record { strict = strict; expected = expected }) form)
    (codes "--yacc" ∷ (report_form_words form ++ (strict_words strict ++ codes "--expect" ∷ count ∷ yacc ∷ [])))
counted_alone_met yacc count true report_form.Plain expected is c p =
    met (long (codes "yacc") ∷ long (codes "strict") ∷ long (codes "expect") ∷ path count ∷ path yacc ∷ [])
    (alone_name, (strict_name, (expect_name, (c, (p, tt))))) refl refl refl
    (strictness_asked None yacc true report_form.Plain (expected_by (Some count)) expected is)
counted_alone_met yacc count false report_form.Plain expected is c p =
    met (long (codes "yacc") ∷ long (codes "expect") ∷ path count ∷ path yacc ∷ [])
    (alone_name, (expect_name, (c, (p, tt)))) refl refl refl
    (strictness_asked None yacc false report_form.Plain (expected_by (Some count)) expected is)
counted_alone_met yacc count true report_form.Json expected is c p =
    met (long (codes "yacc") ∷ long (codes "json") ∷ long (codes "strict") ∷ long (codes "expect") ∷ path count
    ∷ path yacc ∷ [])
    (alone_name, (json_name, (strict_name, (expect_name, (c, (p, tt)))))) refl refl refl
    (strictness_asked None yacc true report_form.Json (expected_by (Some count)) expected is)
counted_alone_met yacc count true report_form.Sarif expected is c p =
    met (long (codes "yacc") ∷ long (codes "sarif") ∷ long (codes "strict") ∷ long (codes "expect") ∷ path count
    ∷ path yacc ∷ [])
    (alone_name, (sarif_name, (strict_name, (expect_name, (c, (p, tt)))))) refl refl refl
    (strictness_asked None yacc true report_form.Sarif (expected_by (Some count)) expected is)
counted_alone_met yacc count false report_form.Json expected is c p =
    met (long (codes "yacc") ∷ long (codes "json") ∷ long (codes "expect") ∷ path count ∷ path yacc ∷ [])
    (alone_name, (json_name, (expect_name, (c, (p, tt))))) refl refl refl
    (strictness_asked None yacc false report_form.Json (expected_by (Some count)) expected is)
counted_alone_met yacc count false report_form.Sarif expected is c p =
    met (long (codes "yacc") ∷ long (codes "sarif") ∷ long (codes "expect") ∷ path count ∷ path yacc ∷ [])
    (alone_name, (sarif_name, (expect_name, (c, (p, tt))))) refl refl refl
    (strictness_asked None yacc false report_form.Sarif (expected_by (Some count)) expected is)

alone_at : (yacc : Text) (states graph : Option Text) (strict : Bool) (expected : Option ℕ) (form : ReportForm)
    (i j : ℕ) (format : Option Version) (count : Option Text)
    → IsCount (explain None yacc states graph (record { strict = strict; expected = expected }) form) count
    → (states ≡ None) × (graph ≡ None) → IsPathWord yacc
    → Met (explain None yacc states graph (record { strict = strict; expected = expected }) form)
    (codes "--yacc" ∷ ((report_form_words form ++ (strict_words strict ++ count_words count))
    ++ words_at i j (explain None yacc states graph (record { strict = strict; expected = expected }) form) format))
alone_at yacc states graph strict (Some n) form i j format None says alone p =
    absurd (true≢false (sym (ap (λ o. is_some (unwrap_or o None)) says.0)))
alone_at yacc None None true None report_form.Plain i j format None says alone p =
    met (long (codes "yacc") ∷ long (codes "strict") ∷ path yacc ∷ []) (alone_name, (strict_name, (p, tt)))
    refl refl refl refl
alone_at yacc None None false None report_form.Plain i j format None says alone p =
    met (long (codes "yacc") ∷ path yacc ∷ []) (alone_name, (p, tt)) refl refl refl refl
alone_at yacc None None true None report_form.Json i j format None says alone p =
    met (long (codes "yacc") ∷ long (codes "json") ∷ long (codes "strict") ∷ path yacc ∷ [])
    (alone_name, (json_name, (strict_name, (p, tt)))) refl refl refl refl
alone_at yacc None None true None report_form.Sarif i j format None says alone p =
    met (long (codes "yacc") ∷ long (codes "sarif") ∷ long (codes "strict") ∷ path yacc ∷ [])
    (alone_name, (sarif_name, (strict_name, (p, tt)))) refl refl refl refl
alone_at yacc None None false None report_form.Json i j format None says alone p =
    met (long (codes "yacc") ∷ long (codes "json") ∷ path yacc ∷ []) (alone_name, (json_name, (p, tt)))
    refl refl refl refl
alone_at yacc None None false None report_form.Sarif i j format None says alone p =
    met (long (codes "yacc") ∷ long (codes "sarif") ∷ path yacc ∷ []) (alone_name, (sarif_name, (p, tt)))
    refl refl refl refl
alone_at yacc None None true expected report_form.Plain i j format (Some count) says alone p =
    counted_alone_met yacc count true report_form.Plain expected says.0 says.1.0 p
alone_at yacc None None false expected report_form.Plain i j format (Some count) says alone p =
    counted_alone_met yacc count false report_form.Plain expected says.0 says.1.0 p
alone_at yacc None None true expected report_form.Json i j format (Some count) says alone p =
    counted_alone_met yacc count true report_form.Json expected says.0 says.1.0 p
alone_at yacc None None true expected report_form.Sarif i j format (Some count) says alone p =
    counted_alone_met yacc count true report_form.Sarif expected says.0 says.1.0 p
alone_at yacc None None false expected report_form.Json i j format (Some count) says alone p =
    counted_alone_met yacc count false report_form.Json expected says.0 says.1.0 p
alone_at yacc None None false expected report_form.Sarif i j format (Some count) says alone p =
    counted_alone_met yacc count false report_form.Sarif expected says.0 says.1.0 p
alone_at yacc (Some file) graph strict expected form i j format count says alone p =
    absurd (true≢false (ap is_some alone.0))
alone_at yacc None (Some file) strict expected form i j format count says alone p =
    absurd (true≢false (ap is_some alone.1))

-- whether a report isn't text for people
abbrev is_data : ReportForm → Bool
is_data report_form.Json = true
is_data report_form.Sarif = true
is_data report_form.Plain = false

-- the words of `explain`, with a count if one is said
explain_at : (lex yacc : Text) (states graph : Option Text) (strict : Bool) (expected : Option ℕ) (form : ReportForm)
    (i j : ℕ) (format : Option Version) (count : Option Text)
    → IsCount (explain (Some lex) yacc states graph (record { strict = strict; expected = expected }) form) count
    → StandAlone (explain (Some lex) yacc states graph (record { strict = strict; expected = expected }) form) count
    format
    → IsPathWord lex × IsPathWord yacc → ArePathWords (as_list states ++ as_list graph)
    → Met (explain (Some lex) yacc states graph (record { strict = strict; expected = expected }) form)
    ((report_form_words form ++ (strict_words strict ++ count_words count))
    ++ words_at i j (explain (Some lex) yacc states graph (record { strict = strict; expected = expected }) form)
    format)
explain_at lex yacc states graph strict (Some n) form i j format None says alone paths r =
    absurd (true≢false (sym (ap (λ o. is_some (unwrap_or o None)) says.0)))
explain_at lex yacc states graph false None report_form.Plain i j format None says alone paths r =
    explain_met lex yacc states graph i j format paths r
explain_at lex yacc None None true None report_form.Plain i j format None says alone paths r =
    met (long (codes "strict") ∷ path lex ∷ path yacc ∷ []) (strict_name, (paths.0, (paths.1, tt))) refl refl refl refl
explain_at lex yacc None None true None report_form.Json i j format None says alone paths r =
    met (long (codes "json") ∷ long (codes "strict") ∷ path lex ∷ path yacc ∷ [])
    (json_name, (strict_name, (paths.0, (paths.1, tt)))) refl refl refl refl
explain_at lex yacc None None true None report_form.Sarif i j format None says alone paths r =
    met (long (codes "sarif") ∷ long (codes "strict") ∷ path lex ∷ path yacc ∷ [])
    (sarif_name, (strict_name, (paths.0, (paths.1, tt)))) refl refl refl refl
explain_at lex yacc None None false None report_form.Json i j format None says alone paths r =
    met (long (codes "json") ∷ path lex ∷ path yacc ∷ []) (json_name, (paths.0, (paths.1, tt))) refl refl refl refl
explain_at lex yacc None None false None report_form.Sarif i j format None says alone paths r =
    met (long (codes "sarif") ∷ path lex ∷ path yacc ∷ []) (sarif_name, (paths.0, (paths.1, tt))) refl refl refl refl
explain_at lex yacc None None true expected report_form.Plain i j format (Some count) says alone paths r =
    counted_explain_met lex yacc count true report_form.Plain expected says.0 says.1.0 paths
explain_at lex yacc None None false expected report_form.Plain i j format (Some count) says alone paths r =
    counted_explain_met lex yacc count false report_form.Plain expected says.0 says.1.0 paths
explain_at lex yacc None None true expected report_form.Json i j format (Some count) says alone paths r =
    counted_explain_met lex yacc count true report_form.Json expected says.0 says.1.0 paths
explain_at lex yacc None None true expected report_form.Sarif i j format (Some count) says alone paths r =
    counted_explain_met lex yacc count true report_form.Sarif expected says.0 says.1.0 paths
explain_at lex yacc None None false expected report_form.Json i j format (Some count) says alone paths r =
    counted_explain_met lex yacc count false report_form.Json expected says.0 says.1.0 paths
explain_at lex yacc None None false expected report_form.Sarif i j format (Some count) says alone paths r =
    counted_explain_met lex yacc count false report_form.Sarif expected says.0 says.1.0 paths
explain_at lex yacc states graph true expected form i j format count says (inl plain) paths r =
    absurd (true≢false plain.0)
explain_at lex yacc states graph false expected form i j format (Some count) says (inl plain) paths r =
    absurd (true≢false (ap is_some plain.1))
explain_at lex yacc states graph false None report_form.Json i j format None says (inl plain) paths r =
    absurd (true≢false (ap is_data plain.2))
explain_at lex yacc states graph false None report_form.Sarif i j format None says (inl plain) paths r =
    absurd (true≢false (ap is_data plain.2))
explain_at lex yacc (Some file) graph strict expected form i j format count says (inr alone) paths r =
    absurd (true≢false (ap is_some alone.0))
explain_at lex yacc None (Some file) strict expected form i j format count says (inr alone) paths r =
    absurd (true≢false (ap is_some alone.1))

where_name : IsLongName (codes "where")
where_name = record { is_read = refl; no_dashes = refl }

tokens_met : (lex : Text) (text : Option Text) (form : AnswerForm) (points : Bool) → ArePathWords (lex ∷ as_list text)
    → Met (tokens lex text (record { form = form; points = points }))
    ((form_words form ++ pointing_words points) ++ lex ∷ as_list text)
tokens_met lex None Plain false o =
    met (path lex ∷ []) o
    refl refl refl refl
tokens_met lex None Plain true o =
    met (long (codes "where") ∷ path lex ∷ []) (where_name, o)
    refl refl refl refl
tokens_met lex None Json false o =
    met (long (codes "json") ∷ path lex ∷ []) (json_name, o)
    refl refl refl refl
tokens_met lex None Json true o =
    met (long (codes "json") ∷ long (codes "where") ∷ path lex ∷ []) (json_name, (where_name, o))
    refl refl refl refl
tokens_met lex (Some text) Plain false o =
    met (path lex ∷ path text ∷ []) o
    refl refl refl refl
tokens_met lex (Some text) Plain true o =
    met (long (codes "where") ∷ path lex ∷ path text ∷ []) (where_name, o)
    refl refl refl refl
tokens_met lex (Some text) Json false o =
    met (long (codes "json") ∷ path lex ∷ path text ∷ []) (json_name, o)
    refl refl refl refl
tokens_met lex (Some text) Json true o =
    met (long (codes "json") ∷ long (codes "where") ∷ path lex ∷ path text ∷ []) (json_name, (where_name, o))
    refl refl refl refl

tables_name : IsLongName (codes "tables")
tables_name = record { is_read = refl; no_dashes = refl }

table_tokens_met : (table_file : Text) (text : Option Text) (form : AnswerForm) (points : Bool)
    → ArePathWords (table_file ∷ as_list text)
    → Met (table_tokens table_file text (record { form = form; points = points }))
    ((codes "--tables" ∷ (form_words form ++ pointing_words points)) ++ table_file ∷ as_list text)
table_tokens_met table_file None Plain false o =
    met (long (codes "tables") ∷ path table_file ∷ []) (tables_name, o)
    refl refl refl refl
table_tokens_met table_file None Plain true o =
    met (long (codes "tables") ∷ long (codes "where") ∷ path table_file ∷ []) (tables_name, (where_name, o))
    refl refl refl refl
table_tokens_met table_file None Json false o =
    met (long (codes "tables") ∷ long (codes "json") ∷ path table_file ∷ []) (tables_name, (json_name, o))
    refl refl refl refl
table_tokens_met table_file None Json true o =
    met (long (codes "tables") ∷ long (codes "json") ∷ long (codes "where") ∷ path table_file ∷ [])
    (tables_name, (json_name, (where_name, o)))
    refl refl refl refl
table_tokens_met table_file (Some text) Plain false o =
    met (long (codes "tables") ∷ path table_file ∷ path text ∷ []) (tables_name, o)
    refl refl refl refl
table_tokens_met table_file (Some text) Plain true o =
    met (long (codes "tables") ∷ long (codes "where") ∷ path table_file ∷ path text ∷ []) (tables_name, (where_name, o))
    refl refl refl refl
table_tokens_met table_file (Some text) Json false o =
    met (long (codes "tables") ∷ long (codes "json") ∷ path table_file ∷ path text ∷ []) (tables_name, (json_name, o))
    refl refl refl refl
table_tokens_met table_file (Some text) Json true o =
    met (long (codes "tables") ∷ long (codes "json") ∷ long (codes "where") ∷ path table_file ∷ path text ∷ [])
    (tables_name, (json_name, (where_name, o)))
    refl refl refl refl

run_met : (table_file : Text) (text : Option Text) (form : AnswerForm) (points : Bool)
    → ArePathWords (table_file ∷ as_list text)
    → Met (run table_file text (record { form = form; points = points }))
    ((form_words form ++ pointing_words points) ++ table_file ∷ as_list text)
run_met table_file None Plain false o = met (path table_file ∷ []) o refl refl refl refl
run_met table_file None Plain true o =
    met (long (codes "where") ∷ path table_file ∷ []) (where_name, o) refl refl refl refl
run_met table_file None Json false o =
    met (long (codes "json") ∷ path table_file ∷ []) (json_name, o) refl refl refl refl
run_met table_file None Json true o =
    met (long (codes "json") ∷ long (codes "where") ∷ path table_file ∷ []) (json_name, (where_name, o))
    refl refl refl refl
run_met table_file (Some text) Plain false o = met (path table_file ∷ path text ∷ []) o refl refl refl refl
run_met table_file (Some text) Plain true o =
    met (long (codes "where") ∷ path table_file ∷ path text ∷ []) (where_name, o) refl refl refl refl
run_met table_file (Some text) Json false o =
    met (long (codes "json") ∷ path table_file ∷ path text ∷ []) (json_name, o) refl refl refl refl
run_met table_file (Some text) Json true o =
    met (long (codes "json") ∷ long (codes "where") ∷ path table_file ∷ path text ∷ [])
    (json_name, (where_name, o)) refl refl refl refl

lines_name : IsLongName (codes "lines")
lines_name = record { is_read = refl; no_dashes = refl }

lines_met : (table_file : Text) (text : Option Text) (form : AnswerForm) (points : Bool)
    → ArePathWords (table_file ∷ as_list text)
    → Met (lines table_file text (record { form = form; points = points }))
    ((codes "--lines" ∷ (form_words form ++ pointing_words points)) ++ table_file ∷ as_list text)
lines_met table_file None Plain false o =
    met (long (codes "lines") ∷ path table_file ∷ []) (lines_name, o) refl refl refl refl
lines_met table_file None Plain true o =
    met (long (codes "lines") ∷ long (codes "where") ∷ path table_file ∷ []) (lines_name, (where_name, o))
    refl refl refl refl
lines_met table_file None Json false o =
    met (long (codes "lines") ∷ long (codes "json") ∷ path table_file ∷ []) (lines_name, (json_name, o))
    refl refl refl refl
lines_met table_file None Json true o =
    met (long (codes "lines") ∷ long (codes "json") ∷ long (codes "where") ∷ path table_file ∷ [])
    (lines_name, (json_name, (where_name, o))) refl refl refl refl
lines_met table_file (Some text) Plain false o =
    met (long (codes "lines") ∷ path table_file ∷ path text ∷ []) (lines_name, o) refl refl refl refl
lines_met table_file (Some text) Plain true o =
    met (long (codes "lines") ∷ long (codes "where") ∷ path table_file ∷ path text ∷ [])
    (lines_name, (where_name, o)) refl refl refl refl
lines_met table_file (Some text) Json false o =
    met (long (codes "lines") ∷ long (codes "json") ∷ path table_file ∷ path text ∷ [])
    (lines_name, (json_name, o)) refl refl refl refl
lines_met table_file (Some text) Json true o =
    met (long (codes "lines") ∷ long (codes "json") ∷ long (codes "where") ∷ path table_file ∷ path text ∷ [])
    (lines_name, (json_name, (where_name, o))) refl refl refl refl

try_met : (lex yacc : Text) (text : Option Text) (form : AnswerForm) (points : Bool)
    → ArePathWords (lex ∷ yacc ∷ as_list text)
    → Met (try lex yacc text (record { form = form; points = points }))
    ((form_words form ++ pointing_words points) ++ lex ∷ yacc ∷ as_list text)
try_met lex yacc None Plain false o = met (path lex ∷ path yacc ∷ []) o refl refl refl refl
try_met lex yacc None Plain true o =
    met (long (codes "where") ∷ path lex ∷ path yacc ∷ []) (where_name, o) refl refl refl refl
try_met lex yacc None Json false o =
    met (long (codes "json") ∷ path lex ∷ path yacc ∷ []) (json_name, o) refl refl refl refl
try_met lex yacc None Json true o =
    met (long (codes "json") ∷ long (codes "where") ∷ path lex ∷ path yacc ∷ []) (json_name, (where_name, o))
    refl refl refl refl
try_met lex yacc (Some text) Plain false o =
    met (path lex ∷ path yacc ∷ path text ∷ []) o refl refl refl refl
try_met lex yacc (Some text) Plain true o =
    met (long (codes "where") ∷ path lex ∷ path yacc ∷ path text ∷ []) (where_name, o) refl refl refl refl
try_met lex yacc (Some text) Json false o =
    met (long (codes "json") ∷ path lex ∷ path yacc ∷ path text ∷ []) (json_name, o) refl refl refl refl
try_met lex yacc (Some text) Json true o =
    met (long (codes "json") ∷ long (codes "where") ∷ path lex ∷ path yacc ∷ path text ∷ [])
    (json_name, (where_name, o)) refl refl refl refl

places_name : IsLongName (codes "places")
places_name = record { is_read = refl; no_dashes = refl }

run_placed_met : (table_file : Text) (text : Option Text) (points : Bool) → ArePathWords (table_file ∷ as_list text)
    → Met (run_placed table_file text points)
    ((codes "--places" ∷ pointing_words points) ++ table_file ∷ as_list text)
run_placed_met table_file None false o =
    met (long (codes "places") ∷ path table_file ∷ []) (places_name, o) refl refl refl refl
run_placed_met table_file None true o =
    met (long (codes "places") ∷ long (codes "where") ∷ path table_file ∷ []) (places_name, (where_name, o))
    refl refl refl refl
run_placed_met table_file (Some text) false o =
    met (long (codes "places") ∷ path table_file ∷ path text ∷ []) (places_name, o) refl refl refl refl
run_placed_met table_file (Some text) true o =
    met (long (codes "places") ∷ long (codes "where") ∷ path table_file ∷ path text ∷ [])
    (places_name, (where_name, o)) refl refl refl refl

try_placed_met : (lex yacc : Text) (text : Option Text) (points : Bool) → ArePathWords (lex ∷ yacc ∷ as_list text)
    → Met (try_placed lex yacc text points)
    ((codes "--places" ∷ pointing_words points) ++ lex ∷ yacc ∷ as_list text)
try_placed_met lex yacc None false o =
    met (long (codes "places") ∷ path lex ∷ path yacc ∷ []) (places_name, o) refl refl refl refl
try_placed_met lex yacc None true o =
    met (long (codes "places") ∷ long (codes "where") ∷ path lex ∷ path yacc ∷ [])
    (places_name, (where_name, o)) refl refl refl refl
try_placed_met lex yacc (Some text) false o =
    met (long (codes "places") ∷ path lex ∷ path yacc ∷ path text ∷ []) (places_name, o) refl refl refl refl
try_placed_met lex yacc (Some text) true o =
    met (long (codes "places") ∷ long (codes "where") ∷ path lex ∷ path yacc ∷ path text ∷ [])
    (places_name, (where_name, o)) refl refl refl refl

check_met : (table_file : Text) (form : AnswerForm) (points : Bool) → ArePathWords (table_file ∷ [])
    → Met (check table_file (record { form = form; points = points }))
    ((form_words form ++ pointing_words points) ++ table_file ∷ [])
check_met table_file Plain false o = met (path table_file ∷ []) o refl refl refl refl
check_met table_file Plain true o =
    met (long (codes "where") ∷ path table_file ∷ []) (where_name, o) refl refl refl refl
check_met table_file Json false o =
    met (long (codes "json") ∷ path table_file ∷ []) (json_name, o) refl refl refl refl
check_met table_file Json true o =
    met (long (codes "json") ∷ long (codes "where") ∷ path table_file ∷ []) (json_name, (where_name, o))
    refl refl refl refl

-- no version is said with other commands
unversioned : (request : Request) (i j : ℕ) (format : Option Version) (count : Option Text) → format ≡ None
    → Met request (flags_of request count ++ words_at i j request None)
    → Met request (flags_of request count ++ words_at i j request format)
unversioned request i j format count none m =
    subst (λ f. Met request (flags_of request count ++ words_at i j request f)) (sym none) m

met_at : (request : Request) (i j : ℕ) (format : Option Version) (count : Option Text) → IsMeant request format
    → IsCount request count → StandAlone request count format
    → ArePathWords (operands_of request) → ArePathWords (written_of request)
    → Met request (flags_of request count ++ words_at i j request format)
met_at (tokens lex None by) i j format count m says alone o r =
    unversioned (tokens lex None by) i j format count m (tokens_met lex None by.form by.points o)
met_at (tokens lex (Some text) by) i j format count m says alone o r =
    unversioned (tokens lex (Some text) by) i j format count m (tokens_met lex (Some text) by.form by.points o)
met_at (table_tokens table_file None by) i j format count m says alone o r =
    unversioned (table_tokens table_file None by) i j format count m
    (table_tokens_met table_file None by.form by.points o)
met_at (table_tokens table_file (Some text) by) i j format count m says alone o r =
    unversioned (table_tokens table_file (Some text) by) i j format count m
    (table_tokens_met table_file (Some text) by.form by.points o)
met_at (build lex yacc table_file report version expected false) i j format count m says alone o r =
    build_at lex yacc table_file report version expected i j format count m.0 says alone (o.0, o.1.0, o.1.1.0) r
met_at (build lex yacc table_file report version expected true) i j format count m says alone o r =
    absurd (true≢false m.1)
met_at (run table_file None by) i j format count m says alone o r =
    unversioned (run table_file None by) i j format count m (run_met table_file None by.form by.points o)
met_at (run table_file (Some text) by) i j format count m says alone o r =
    unversioned (run table_file (Some text) by) i j format count m (run_met table_file (Some text) by.form by.points o)
met_at (lines table_file None by) i j format count m says alone o r =
    unversioned (lines table_file None by) i j format count m (lines_met table_file None by.form by.points o)
met_at (lines table_file (Some text) by) i j format count m says alone o r =
    unversioned (lines table_file (Some text) by) i j format count m
    (lines_met table_file (Some text) by.form by.points o)
met_at (try lex yacc None by) i j format count m says alone o r =
    unversioned (try lex yacc None by) i j format count m (try_met lex yacc None by.form by.points o)
met_at (try lex yacc (Some text) by) i j format count m says alone o r =
    unversioned (try lex yacc (Some text) by) i j format count m (try_met lex yacc (Some text) by.form by.points o)
met_at (run_placed table_file None points) i j format count m says alone o r =
    unversioned (run_placed table_file None points) i j format count m (run_placed_met table_file None points o)
met_at (run_placed table_file (Some text) points) i j format count m says alone o r =
    unversioned (run_placed table_file (Some text) points) i j format count m
    (run_placed_met table_file (Some text) points o)
met_at (try_placed lex yacc None points) i j format count m says alone o r =
    unversioned (try_placed lex yacc None points) i j format count m (try_placed_met lex yacc None points o)
met_at (try_placed lex yacc (Some text) points) i j format count m says alone o r =
    unversioned (try_placed lex yacc (Some text) points) i j format count m
    (try_placed_met lex yacc (Some text) points o)
met_at (check table_file by) i j format count m says alone o r =
    unversioned (check table_file by) i j format count m (check_met table_file by.form by.points o)
met_at (explain (Some lex) yacc states graph strictness form) i j format count m says alone o r =
    explain_at lex yacc states graph strictness.strict strictness.expected form i j format count says alone
    (o.0, o.1.0) r
met_at (explain None yacc states graph strictness form) i j format count m says alone o r =
    alone_at yacc states graph strictness.strict strictness.expected form i j format count says alone o.0

-- these words behind the program's name and the command's
both_asked : (program : Text) (request : Request) (words : List Word) → Asks request words
    → (line_takes (program ∷ name_of request ∷ map text_of words) ≡ true)
    × (request_of (program ∷ name_of request ∷ map text_of words) ≡ Some request)
unfolding line_takes subcommand_in
both_asked program request words a = (
  line_passes line_app (name_of request) (shape_at (name_of request)) (enters request) program (map text_of words)
      (level_taken (shape_at (name_of request)) words a.are a.each a.rest),
  ap (option_and_then request_by)
      (subcommand_rows_are line_app (name_of request) (shape_at (name_of request)) (enters request) program
      (map text_of words) ∙ ap (λ r. Some r) (rows_are (shape_at (name_of request)) words a.are)) ∙ a.found,
)

pub asked : (words : List Text) (request : Request) → AskFor words request
    → (line_takes words ≡ true) × (request_of words ≡ Some request)
asked words request a =
    let m = met_at request a.first_place a.second_place a.format a.count a.format_is_meant a.is_count a.alone
    a.operand_paths a.written_paths in
    let words_are : words ≡ a.program ∷ name_of request ∷ map text_of m.words =
    a.words_are ∙ ap (λ ws. a.program ∷ name_of request ∷ ws) (sym m.texts_are) in
    let both = both_asked a.program request m.words m.asks in
    (ap line_takes words_are ∙ both.0, ap request_of words_are ∙ both.1)

-- `?` passes an error up as it is
pub refused_up : {T E : Type 0} (r : Result T E) (e : E) (P : T → Type 0) (Q : E → Type 0) → IsErrAnd r (λ y. y ≡ e)
    → Q e → MatchResult r P Q
refused_up (Ok x) e P Q is q = absurd is
refused_up (Err y) e P Q is q = subst Q (sym is) q
