-- The words behind a subcommand's name on their way through `clap`: paths and options by their long names. A path goes
-- to the option that waits for a value, or else to the next positional argument.
use Rattle.std.proofs.Common.{◌≡◌, ◌∙◌, ◌++◌, ◌∷◌, ◌&&◌, ◌==◌, [], List, Bool, ℕ, Option, Some, None, inl, inr}
use Rattle.std.proofs.Common.{true, false, refl, ap, ap₂, codes, fold, bytes_eq, map}
use Rattle.std.proofs.lemmas.Bool.{eqb-true}
use Rattle.clap.specs.Lexer.{long_of, short_of}
use Rattle.clap.specs.Walk.{Held, Outcome, Rule, Step, Waiting, Walk, Text, arg_by_index, arg_by_long, finished, idle}
use Rattle.clap.specs.Walk.{after_flag, long_met, long_word, plain_word}
use Rattle.clap.specs.Walk.{after_step, done, next, nothing_held, option, plain, positional, refused, subcommand}
use Rattle.clap.specs.Walk.{to_positional, trailing, value, waits, walk_from, walked, walked_from, word_met}
use Rattle.clap.specs.Simple.{Shape, rows_at}
use Rattle.clap.specs.Takes.{default_passes, is_valid, level_passes, long_passes, settle_passes, step_passes}
use Rattle.clap.specs.Takes.{turn_passes, walk_passes, word_passes}
use Rattle.std.specs.List.{list_all}
use Rattle.std.specs.Prelude.{◌||◌, is_some, if◌then◌else◌}
use Rattle.ly_cli.specs.Paths.{IsPathWord}

-- `clap` sees no flag in the word
record IsNoFlag (word : Text) : Type 0 where
  no_long : long_of word ≡ None
  no_short : short_of word ≡ None
  no_dashes : bytes_eq word (codes "--") ≡ false

no_flag_after : (first : ℕ) (rest : Text) (is : Bool) → (first == 45) ≡ is
    → ((more : Text) → ¬ (first ∷ rest ≡ codes "-" ++ more)) → IsNoFlag (first ∷ rest)
no_flag_after first rest true e other = absurd (other rest (ap (λ b. b ∷ rest) (eqb-true first 45 e)))
no_flag_after first rest false e other =
    record { no_long = rw e refl; no_short = rw e refl; no_dashes = rw e refl }

path_is_no_flag : (word : Text) → IsPathWord word → IsNoFlag word
path_is_no_flag word (inl e) = record { no_long = rw e refl; no_short = rw e refl; no_dashes = rw e refl }
path_is_no_flag [] (inr other) = record { no_long = refl; no_short = refl; no_dashes = refl }
path_is_no_flag (first ∷ rest) (inr other) = no_flag_after first rest (first == 45) refl other

-- a word behind the subcommand's name: a path, or an option by its long name
pub data Word : Type 0 where
  path : Text → Word
  long : Text → Word

abbrev pub text_of : Word → Text
text_of (path word) = word
text_of (long name) = codes "--" ++ name

-- `clap` reads the name of the option
pub record IsLongName (name : Text) : Type 0 where
  pub is_read : long_of (codes "--" ++ name) ≡ Some (name, None)
  pub no_dashes : bytes_eq (codes "--" ++ name) (codes "--") ≡ false

abbrev pub IsWord : Word → Type 0
IsWord (path word) = IsPathWord word
IsWord (long name) = IsLongName name

abbrev pub AreWords : List Word → Type 0
AreWords [] = Unit {0}
AreWords (word ∷ words) = IsWord word × AreWords words

-- what the word is where no `--` stood before it
abbrev pub read : List Rule → Waiting → Word → Held → Held × Step
read rules waiting (path word) h = plain_word rules waiting word h
read rules waiting (long name) h = long_word rules waiting (codes "--" ++ name) name None h

abbrev pub met : List Rule → Bool → Waiting → Word → Held → Held × Step
met rules is_trailing waiting word h = if is_trailing then (h, value) else read rules waiting word h

met_is : (rules : List Rule) (is_trailing : Bool) (waiting : Waiting) (position : ℕ) (word : Word) (h : Held)
    → IsWord word
    → word_met rules [] is_trailing waiting position (text_of word) h ≡ met rules is_trailing waiting word h
met_is rules true waiting position word h is = refl
met_is rules false idle position (path word) h is =
    let n = path_is_no_flag word is in rw n.no_dashes (rw n.no_long (rw n.no_short refl))
met_is rules false positional position (path word) h is =
    let n = path_is_no_flag word is in rw n.no_dashes (rw n.no_long (rw n.no_short refl))
met_is rules false (option id) position (path word) h is =
    let n = path_is_no_flag word is in rw n.no_dashes (rw n.no_long (rw n.no_short refl))
met_is rules false idle position (long name) h is = rw is.no_dashes (rw is.is_read refl)
met_is rules false positional position (long name) h is = rw is.no_dashes (rw is.is_read refl)
met_is rules false (option id) position (long name) h is = rw is.no_dashes (rw is.is_read refl)

-- the rules take the word
abbrev pub word_taken : Shape → Bool → Word → Held → Bool
word_taken s is_trailing (path word) h = true
word_taken s is_trailing (long name) h =
    is_trailing || long_passes s.rules s.args_override_self (arg_by_long s.rules name) None h

word_taken_is : (s : Shape) (is_trailing : Bool) (waiting : Waiting) (word : Word) (h : Held)
    → IsWord word → word_passes s [] is_trailing waiting (text_of word) h ≡ word_taken s is_trailing word h
word_taken_is s true waiting (path word) h is = refl
word_taken_is s true waiting (long name) h is = refl
word_taken_is s false idle (path word) h is =
    let n = path_is_no_flag word is in rw n.no_dashes (rw n.no_long (rw n.no_short refl))
word_taken_is s false positional (path word) h is =
    let n = path_is_no_flag word is in rw n.no_dashes (rw n.no_long (rw n.no_short refl))
word_taken_is s false (option id) (path word) h is =
    let n = path_is_no_flag word is in rw n.no_dashes (rw n.no_long (rw n.no_short refl))
word_taken_is s false idle (long name) h is = rw is.no_dashes (rw is.is_read refl)
word_taken_is s false positional (long name) h is = rw is.no_dashes (rw is.is_read refl)
word_taken_is s false (option id) (long name) h is = rw is.no_dashes (rw is.is_read refl)

-- the walk goes on to the next word
abbrev GoesOn : Step → Type 0
GoesOn (subcommand name) = ⊥
GoesOn _ = Unit {0}

plain_goes_on : (rules : List Rule) (waiting : Waiting) (word : Text) (h : Held)
    → GoesOn (plain_word rules waiting word h).1
plain_goes_on rules idle word h = tt
plain_goes_on rules (option id) word h = tt
plain_goes_on rules positional word h = tt

flag_goes_on : (rules : List Rule) (waiting : Waiting) (word : Text) (h : Held) (o : Outcome)
    → GoesOn (after_flag rules waiting word h o).1
flag_goes_on rules waiting word h done = tt
flag_goes_on rules waiting word h (waits id) = tt
flag_goes_on rules waiting word h plain = plain_goes_on rules waiting word h
flag_goes_on rules waiting word h refused = plain_goes_on rules waiting word h

met_goes_on : (rules : List Rule) (is_trailing : Bool) (waiting : Waiting) (word : Word) (h : Held)
    → GoesOn (met rules is_trailing waiting word h).1
met_goes_on rules true waiting word h = tt
met_goes_on rules false waiting (path word) h = plain_goes_on rules waiting word h
met_goes_on rules false waiting (long name) h =
    flag_goes_on rules waiting (codes "--" ++ name) _ (long_met rules (arg_by_long rules name) None h).1

step_goes_on : (rules : List Rule) (word : Text) (w : Walk) (h : Held) (s : Step) → GoesOn s → w.stopped ≡ None
    → (after_step rules word w h s).stopped ≡ None
step_goes_on rules word w h (next waiting) on e = e
step_goes_on rules word w h (trailing position) on e = e
step_goes_on rules word w h (subcommand name) on e = absurd on
step_goes_on rules word w h value on e = to (arg_by_index rules w.position)
  where
    to : (o : Option Rule) → (to_positional rules o word w h).stopped ≡ None
    to None = e
    to (Some a) = refl

-- the walk after one more word
abbrev pub after : List Rule → Walk → Word → Walk
after rules w word =
    let m = met rules w.is_trailing w.waiting word w.held in after_step rules (text_of word) w m.0 m.1

after_is : (rules : List Rule) (w : Walk) (word : Word) → IsWord word → w.stopped ≡ None
    → walked rules [] w (text_of word) ≡ after rules w word
unfolding walked
after_is rules w word is on =
    ap (λ o. walked_from rules [] o w (text_of word)) on
    ∙ ap (λ (m : Held × Step). after_step rules (text_of word) w m.0 m.1)
    (met_is rules w.is_trailing w.waiting w.position word w.held is)

after_on : (rules : List Rule) (w : Walk) (word : Word) → w.stopped ≡ None → (after rules w word).stopped ≡ None
after_on rules w word on =
    step_goes_on rules (text_of word) w _ _ (met_goes_on rules w.is_trailing w.waiting word w.held) on

walk_is : (rules : List Rule) (w : Walk) (words : List Word) → AreWords words → w.stopped ≡ None
    → fold (walked rules []) w (map text_of words) ≡ fold (after rules) w words
walk_is rules w [] are on = refl
walk_is rules w (word ∷ words) are on =
    ap (λ v. fold (walked rules []) v (map text_of words)) (after_is rules w word are.0 on)
    ∙ walk_is rules (after rules w word) words are.1 (after_on rules w word on)

-- the rules take each of the words
abbrev pub all_taken : Shape → Walk → List Word → Bool
all_taken s w [] = true
all_taken s w (word ∷ words) =
    let m = met s.rules w.is_trailing w.waiting word w.held in
    (word_taken s w.is_trailing word w.held && step_passes s w.position m.0 m.1)
    && all_taken s (after s.rules w word) words

turn_is : (s : Shape) (w : Walk) (word : Word) → IsWord word → w.stopped ≡ None
    → turn_passes s [] w (text_of word)
    ≡ (word_taken s w.is_trailing word w.held && (let m = met s.rules w.is_trailing w.waiting word w.held in
    step_passes s w.position m.0 m.1))
turn_is s w word is on =
    let m : Held × Step = word_met s.rules [] w.is_trailing w.waiting w.position (text_of word) w.held in
    ap (λ o. is_some o || (word_passes s [] w.is_trailing w.waiting (text_of word) w.held
    && step_passes s w.position m.0 m.1)) on
    ∙ ap₂ (λ (b : Bool) (n : Held × Step). b && step_passes s w.position n.0 n.1)
    (word_taken_is s w.is_trailing w.waiting word w.held is)
    (met_is s.rules w.is_trailing w.waiting w.position word w.held is)

passes_are : (s : Shape) (w : Walk) (words : List Word) → AreWords words → w.stopped ≡ None
    → walk_passes s [] w (map text_of words) ≡ all_taken s w words
unfolding walk_passes
passes_are s w [] are on = refl
passes_are s w (word ∷ words) are on =
    ap₂ (λ a b. a && b) (turn_is s w word are.0 on)
    (ap (λ v. walk_passes s [] v (map text_of words)) (after_is s.rules w word are.0 on)
    ∙ passes_are s (after s.rules w word) words are.1 (after_on s.rules w word on))

-- what is asked once the words are read, the subcommand included
abbrev pub rest_passes : Shape → Held → Bool → Bool
rest_passes s end has_subcommand =
    settle_passes s.rules s.args_override_self end
    && (list_all default_passes s.rules && is_valid s (finished s.rules end) has_subcommand)

pub and_true : (a b : Bool) → a ≡ true → b ≡ true → (a && b) ≡ true
and_true a b e f = ap₂ (λ x y. x && y) e f

-- what is held once the words are read
abbrev pub held_after : Shape → List Word → Held
held_after s words = (fold (after s.rules) (walk_from nothing_held) words).held

-- a subcommand takes the words
pub level_taken : (s : Shape) (words : List Word) → AreWords words
    → all_taken s (walk_from nothing_held) words ≡ true → rest_passes s (held_after s words) false ≡ true
    → level_passes s [] nothing_held (map text_of words) false ≡ true
level_taken s words are each rest =
    and_true _ _ (passes_are s (walk_from nothing_held) words are refl ∙ each)
    (ap (λ (w : Walk). rest_passes s w.held false) (walk_is s.rules (walk_from nothing_held) words are refl) ∙ rest)

-- and these are its arguments' values
pub rows_are : (s : Shape) (words : List Word) → AreWords words
    → rows_at s (map text_of words) ≡ (s.name, finished s.rules (held_after s words))
rows_are s words are =
    ap (λ (w : Walk). (s.name, finished s.rules w.held)) (walk_is s.rules (walk_from nothing_held) words are refl)
