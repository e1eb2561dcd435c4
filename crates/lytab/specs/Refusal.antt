-- What a failure implies for the files that a text is parsed with, and for the text.
use Rattle.std.specs.Prelude.{◌≡◌, ◌≢◌, ℕ, List, [], Option, Some, length}
use Rattle.ly_base.specs.Limits.{Sizes, least_of, sizes_in, version_2}
use Rattle.ly_base.specs.declared.version.Version.{Version}
use Rattle.ly_drive.specs.Answering.{IsDriven, IsFaultyOn, IsTooLong}
use Rattle.ly_files.specs.Folder.{Files, IsFile}
use Rattle.ly_generate.specs.Accepted.{IsRefusedFor}
use Rattle.ly_generate.specs.GenFault.{gen_line}
use Rattle.ly_generate.specs.Generated.{IsGenerated}
use Rattle.ly_generate.specs.declared.gen_fault.GenFault.{GenFault}
use Rattle.ly_generate.specs.declared.gen_fault.GenFault.TheVariants as gen
use Rattle.ly_lexread.specs.Faults.{IsAtMost, IsTooHeavy}
use Rattle.ly_lexread.specs.LexText.{IsHeavyText, IsLight, LexText}
use Rattle.ly_lexread.specs.declared.fault.LexFault.TheVariants as lex_fault
use Rattle.ly_lexread.specs.declared.file.LexFile.{LexFile}
use Rattle.ly_position.specs.declared.fault.PosFault.TheVariants.{TooManyPositions}
use Rattle.ly_report.specs.Counts.{AreCounts}
use Rattle.ly_report.specs.declared.counts.ConflictCounts.{ConflictCounts}
use Rattle.ly_subset.specs.declared.fault.SubsetFault.TheVariants.{TooManyStates}
use Rattle.ly_tables.specs.Refusal.{IsRefusedAs}
use Rattle.ly_tables.specs.TableSet.{TableSet}
use Rattle.ly_tables.specs.declared.fault.TableFault.TheVariants as file
use Rattle.ly_tokens.specs.Answers.{AreTooHeavy, HaveTooManyStates}
use Rattle.lytab.specs.Failure.{IsOfDevice}
use Rattle.lytab.specs.TableTokens.{IsRefusalOfScanner}
use Rattle.lytab.specs.declared.answering.Rules.{Rules}
use Rattle.lytab.specs.declared.answering.Rules.TheVariants as rules
use Rattle.lytab.specs.declared.failure.Failure.{Failure}
use Rattle.lytab.specs.declared.failure.Failure.TheVariants.{CannotRead, CannotWrite, FaultyTables, OutOfMemory}
use Rattle.lytab.specs.declared.failure.Failure.TheVariants.{Refused, Tables, TooLong, Unexpected}

-- The bytes are no lex file, or one that exceeds the limits.
abbrev pub IsRefusedLex : List ℕ → GenFault → Type 0
IsRefusedLex lex (gen.Lex fault) = (fault ≢ lex_fault.OutOfMemory) × IsAtMost (length lex) fault
    × ((IsTooHeavy fault → ⊥) → (f : LexFile) → LexText lex f → ⊥)
    × (IsTooHeavy fault → IsHeavyText version_2.pattern_weight lex)
    × (IsTooHeavy fault → (f : LexFile) → LexText lex f → IsLight version_2.pattern_weight f → ⊥)
IsRefusedLex lex (gen.Positions fault) = (fault ≡ TooManyPositions) × AreTooHeavy version_2 lex
IsRefusedLex lex (gen.States fault) = (fault ≡ TooManyStates) × HaveTooManyStates version_2 lex
IsRefusedLex lex _ = ⊥

-- if tokens are printed
abbrev pub IsRefusalOfLex : List ℕ → Failure → Type 0
IsRefusalOfLex lex (Refused fault line) = IsRefusedLex lex fault × (line ≡ gen_line fault lex [])
IsRefusalOfLex lex (CannotRead path) = Unit {0}
IsRefusalOfLex lex (CannotWrite path) = Unit {0}
IsRefusalOfLex lex OutOfMemory = Unit {0}
IsRefusalOfLex lex _ = ⊥

-- if a table file is used to parse what a reader returned
abbrev pub IsRefusalOfTables : List ℕ → Option (List ℕ) → Failure → Type 0
IsRefusalOfTables tables given (Tables fault) = (fault ≢ file.OutOfMemory) × IsRefusedAs tables fault
IsRefusalOfTables tables given FaultyTables = (s : TableSet) × IsDriven tables s × IsFaultyOn s given
IsRefusalOfTables tables given TooLong = IsTooLong given
IsRefusalOfTables tables given (CannotRead path) = Unit {0}
IsRefusalOfTables tables given (CannotWrite path) = Unit {0}
IsRefusalOfTables tables given OutOfMemory = Unit {0}
IsRefusalOfTables tables given _ = ⊥

-- if a lex file and a yacc file are used to parse it
abbrev pub IsRefusalOfFiles : List ℕ → List ℕ → Option (List ℕ) → Failure → Type 0
IsRefusalOfFiles lex yacc given (Refused fault line) = (fault ≢ gen.OutOfMemory)
    × IsRefusedFor version_2 lex yacc fault × (line ≡ gen_line fault lex yacc)
IsRefusalOfFiles lex yacc given TooLong = IsTooLong given
IsRefusalOfFiles lex yacc given (CannotRead path) = Unit {0}
IsRefusalOfFiles lex yacc given (CannotWrite path) = Unit {0}
IsRefusalOfFiles lex yacc given OutOfMemory = Unit {0}
IsRefusalOfFiles lex yacc given _ = ⊥

-- The specification that a lex file and a yacc file define within limits, from which a table set is made, has these
-- conflicts; but exactly this many shift/reduce and no reduce/reduce conflicts are expected.
pub record HasOtherCounts (limits : Sizes) (version : Version) (expected : Option ℕ) (counts : ConflictCounts)
    (wanted : ℕ) : Type 0 where
  pub lex : List ℕ
  pub yacc : List ℕ
  pub set : TableSet
  pub generated : IsGenerated version (least_of limits (sizes_in version)) lex yacc set
  pub are_counts : AreCounts generated.spec counts
  pub is_expected : expected ≡ Some wanted
  pub others : (counts.shift_reduce ≡ wanted) × (counts.reduce_reduce ≡ 0) → ⊥

-- if a table file of a version is built from the lex file and the yacc file with these paths, with this expected count
abbrev pub IsRefusalOfBuild : Version → Option ℕ → Option Files → List ℕ → List ℕ → Failure → Type 0
IsRefusalOfBuild version expected files lex_path yacc_path (Refused fault line) = (lex yacc : List ℕ)
    × IsFile files lex_path lex × IsFile files yacc_path yacc
    × IsRefusedFor (least_of version_2 (sizes_in version)) lex yacc fault × (line ≡ gen_line fault lex yacc)
IsRefusalOfBuild version expected files lex_path yacc_path (Unexpected counts wanted) =
    (o : HasOtherCounts version_2 version expected counts wanted) × IsFile files lex_path o.lex
    × IsFile files yacc_path o.yacc
IsRefusalOfBuild version expected files lex_path yacc_path f = IsOfDevice f

-- if the table file with this path is checked
abbrev pub IsRefusalOfCheck : Option Files → List ℕ → Failure → Type 0
IsRefusalOfCheck files path (Tables fault) = (tables : List ℕ) × IsFile files path tables × IsRefusedAs tables fault
IsRefusalOfCheck files path f = IsOfDevice f

-- What a failure implies for these rules and for what a reader returned. A read or write error and out of memory imply
-- nothing. For `--lines` the definitions are in `Lines`.
abbrev pub IsRefusalOf : Rules → Option (List ℕ) → Failure → Type 0
IsRefusalOf (rules.Tokens lex form) given f = IsRefusalOfLex lex.now f
IsRefusalOf (rules.TableTokens tables form) given f = IsRefusalOfScanner tables.now given f
IsRefusalOf (rules.Tables tables form) given f = IsRefusalOfTables tables.now given f
IsRefusalOf (rules.Lines tables form) given f = Unit {0}
IsRefusalOf (rules.TablesPlaced tables) given f = IsRefusalOfTables tables.now given f
IsRefusalOf (rules.BothPlaced lex yacc) given f = IsRefusalOfFiles lex.now yacc.now given f
IsRefusalOf (rules.Both lex yacc form) given f = IsRefusalOfFiles lex.now yacc.now given f
