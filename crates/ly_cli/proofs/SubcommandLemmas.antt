-- A line whose first word after the program's name is a subcommand: what `clap` makes of the words behind it.
use Rattle.std.proofs.Common.{◌≡◌, ◌∙◌, ◌++◌, ◌∷◌, [], List, Some, true, false, refl, sym, ap}
use Rattle.std.proofs.Common.{append-nil, append_assoc, find, fold, is_some, option_map, if◌then◌else◌}
use Rattle.std.specs.Option.{option_map_or}
use Rattle.clap.specs.Walk.{Names, Rule, Text, Walk, answers_to, nothing_held, walk, walk_from, walked}
use Rattle.clap.specs.Simple.{App, Shape, built, entered, is_simple, label_of, names_of, rows_at, subcommand_of}
use Rattle.clap.specs.Takes.{built_takes, entered_passes, level_passes, takes, turn_passes, walk_passes}
use Rattle.ly_cli.proofs.PathLemmas.{and_true, rest_passes}

-- the walk that has met a subcommand, with the words behind it
abbrev at_subcommand : Text → List Text → Walk
at_subcommand name words = record (walk_from nothing_held) { stopped = Some (name, words) }

walk_behind : (rules : List Rule) (names : Names) (name : Text) (before words : List Text)
    → fold (walked rules names) (at_subcommand name before) words ≡ at_subcommand name (before ++ words)
unfolding walked
walk_behind rules names name before [] = ap (at_subcommand name) (sym (append-nil before))
walk_behind rules names name before (word ∷ words) =
    walk_behind rules names name (before ++ word ∷ []) words
    ∙ ap (at_subcommand name) (append_assoc before (word ∷ []) words)

passes_behind : (s : Shape) (names : Names) (name : Text) (before words : List Text)
    → walk_passes s names (at_subcommand name before) words ≡ true
unfolding walk_passes walked
passes_behind s names name before [] = refl
passes_behind s names name before (word ∷ words) = passes_behind s names name (before ++ word ∷ []) words

-- the word enters the subcommand s of the line, once it is built
pub record Enters (line : App) (name : Text) (s : Shape) : Type 0 where
  pub simple : is_simple line ≡ true
  pub has_name : line.top.no_binary_name ≡ false
  pub met : walked (built line).top.rules (names_of (built line)) (walk_from nothing_held) name ≡ at_subcommand name []
  pub passes : turn_passes (built line).top (names_of (built line)) (walk_from nothing_held) name ≡ true
  pub found : find (λ x. answers_to name (label_of x)) (built line).subs ≡ Some s
  pub rest : rest_passes (built line).top nothing_held true ≡ true

module _ (line : App) (name : Text) (s : Shape) (e : Enters line name s) (program : Text) (words : List Text) where
  walk_is : walk (built line).top.rules (names_of (built line)) nothing_held (name ∷ words) ≡ at_subcommand name words
  walk_is = ap (λ w. fold (walked (built line).top.rules (names_of (built line))) w words) e.met
      ∙ walk_behind (built line).top.rules (names_of (built line)) name [] words

  -- its values are those that its own arguments get from the words
  pub subcommand_rows_are : subcommand_of line (program ∷ name ∷ words) ≡ Some (rows_at s words)
  subcommand_rows_are =
      ap (λ b. entered (built line) (walk (built line).top.rules (names_of (built line)) nothing_held
      (if b then program ∷ name ∷ words else name ∷ words)).stopped) e.has_name
      ∙ ap (λ (w : Walk). entered (built line) w.stopped) walk_is
      ∙ ap (option_map (λ x. rows_at x words)) e.found

  walk_passes_too : walk_passes (built line).top (names_of (built line)) (walk_from nothing_held) (name ∷ words) ≡ true
  unfolding walk_passes
  walk_passes_too = and_true _ _ e.passes
      (ap (λ w. walk_passes (built line).top (names_of (built line)) w words) e.met
      ∙ passes_behind (built line).top (names_of (built line)) name [] words)

  -- the line takes the words if the subcommand does
  pub line_passes : level_passes s [] nothing_held words false ≡ true → takes line (program ∷ name ∷ words) ≡ true
  line_passes h =
      and_true _ _ e.simple (ap (λ b. built_takes (built line) nothing_held
      (if b then program ∷ name ∷ words else name ∷ words)) e.has_name
      ∙ and_true _ _ entered_is (and_true _ _ walk_passes_too after))
    where
      entered_is : entered_passes (built line)
          (walk (built line).top.rules (names_of (built line)) nothing_held (name ∷ words)).stopped ≡ true
      entered_is = ap (λ (w : Walk). entered_passes (built line) w.stopped) walk_is
          ∙ ap (λ o. option_map_or (λ x. level_passes x [] nothing_held words false) o true) e.found ∙ h

      after : rest_passes (built line).top
          (walk (built line).top.rules (names_of (built line)) nothing_held (name ∷ words)).held
          (is_some (entered (built line)
          (walk (built line).top.rules (names_of (built line)) nothing_held (name ∷ words)).stopped)) ≡ true
      after =
          ap (λ (w : Walk). rest_passes (built line).top w.held (is_some (entered (built line) w.stopped))) walk_is
          ∙ ap (λ o. rest_passes (built line).top nothing_held (is_some (option_map (λ x. rows_at x words) o))) e.found
          ∙ e.rest
