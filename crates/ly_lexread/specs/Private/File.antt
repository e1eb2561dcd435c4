-- What is read behind the definitions of a lex file.
use Rattle.std.specs.Prelude.{◌≡◌, ◌-◌, ℕ, List, length, map}
use Rattle.ly_ere.specs.Names.{Definition}
use Rattle.ly_lexread.specs.declared.file.LexFile.{LexFile}
use Rattle.ly_lexread.specs.declared.read.Stated.{Stated}
use Rattle.ly_lexread.specs.declared.rules.Section.{Section}
use Rattle.ly_lexread.specs.Action.{AreEffects, Saying, effect_of}
use Rattle.ly_lexread.specs.Definitions.{Preamble}
use Rattle.ly_lexread.specs.LexText.{conditions_in, said_of}
use Rattle.ly_lexread.specs.Names.{AreDefinitions}
use Rattle.ly_lexread.specs.Rules.{Rules}

-- Behind these definitions, this text says the file, which has so many bytes.
pub record IsBehind (whole : ℕ) (all : Preamble) (behind : List ℕ) (file : LexFile) : Type 0 where
  pub names : AreDefinitions all.definitions file.names
  pub sayings : List Saying
  pub lefts : List ℕ
  pub rules : Rules all.conditions file.names behind file.rules.items sayings lefts
  pub effects : AreEffects sayings (map effect_of file.actions.items)
  pub conditions : file.conditions ≡ length all.conditions
  pub start_conditions : map said_of file.start_conditions.items ≡ conditions_in whole all.conditions
  pub rule_starts : file.rule_starts.items ≡ map (λ n. whole - n) lefts
  pub definition_starts : file.definition_starts.items ≡ map (λ d. whole - d.1.1) all.definitions

-- The definitions of a file of so many bytes state this.
pub record IsStatedIn (whole : ℕ) (all : Preamble) (stated : Stated) : Type 0 where
  pub conditions : stated.conditions ≡ length all.conditions
  pub start_conditions : map said_of stated.start_conditions.items ≡ conditions_in whole all.conditions
  pub starts : stated.starts.items ≡ map (λ d. whole - d.1.1) all.definitions

-- The file has these definitions and rules, the actions of what the rules say, and what the definitions state.
pub record IsFileOf (names : List Definition) (section : Section) (sayings : List Saying) (stated : Stated)
    (file : LexFile) : Type 0 where
  pub names_are : file.names ≡ names
  pub rules_are : file.rules.items ≡ section.rules.items
  pub starts_are : file.rule_starts ≡ section.starts
  pub effects : AreEffects sayings (map effect_of file.actions.items)
  pub count : file.conditions ≡ stated.conditions
  pub conditions_are : file.start_conditions ≡ stated.start_conditions
  pub definitions_are : file.definition_starts ≡ stated.starts
