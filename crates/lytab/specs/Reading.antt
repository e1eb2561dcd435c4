-- What is read of a text.
use Rattle.std.specs.Prelude.{◌≡◌, ◌⊎◌, ℕ, IfErr, List, MatchResult, OnOk, Option, Result}
use Rattle.std.specs.Io.KnownBytes.{IsAtEnd}
use Rattle.ly_base.specs.Limits.{version_2}
use Rattle.ly_base.specs.declared.version.Version.TheVariants.{V2}
use Rattle.ly_drive.specs.Answering.{IsDriven, NeedsMoreInput, IsReadAsNeeded}
use Rattle.ly_generate.specs.Generated.{IsGenerated}
use Rattle.ly_tables.specs.TableSet.{TableSet}
use Rattle.lytab.specs.Failure.{IsOfReader}
use Rattle.lytab.specs.declared.answering.Rules.{Rules}
use Rattle.lytab.specs.declared.answering.Rules.TheVariants as rules
use Rattle.lytab.specs.declared.completion.Completion.{Completion}
use Rattle.lytab.specs.declared.failure.Failure.{Failure}
use Rattle.lytab.specs.declared.failure.Failure.TheVariants.{Refused, Tables}

-- a read failed
abbrev pub HasReadFailed : Result Completion Failure → Type 0
HasReadFailed result = MatchResult result (λ c. ⊥) IsOfReader

-- the files that a text is parsed with are rejected
abbrev pub IsOfRules : Failure → Type 0
IsOfRules (Refused fault line) = Unit {0}
IsOfRules (Tables fault) = Unit {0}
IsOfRules _ = ⊥

-- What is read to parse with a table set. Without a failed read it is no more than is needed, and at most 4,096 bytes
-- beyond that. If a read failed, the result wasn't known yet, so that the read was needed.
pub record IsReadFor (s : TableSet) (result : Result Completion Failure) (before after : Option (List ℕ)) : Type 0 where
  pub needed : (HasReadFailed result → ⊥) → IsReadAsNeeded 4096 s before after
  pub asked : HasReadFailed result → NeedsMoreInput s before after

-- the same if the set is that of a table file
abbrev pub IsReadByTables : List ℕ → Result Completion Failure → Option (List ℕ) → Option (List ℕ) → Type 0
IsReadByTables tables result before after = (s : TableSet) → IsDriven tables s → IsReadFor s result before after

-- The same if the set is generated from a lex file and a yacc file; or the reader is unchanged.
abbrev pub IsReadByFiles : {R : Type 0} → List ℕ → List ℕ → Result Completion Failure → R → R → Option (List ℕ)
    → Option (List ℕ) → Type 0
IsReadByFiles lex yacc result old new before after = (new ≡ old)
    ⊎ ((s : TableSet) × IsGenerated V2 version_2 lex yacc s × IsReadFor s result before after)

-- what these rules read: all of a text if its tokens are printed or with `--places`
abbrev pub IsReadBy : {R : Type 0} → Rules → Result Completion Failure → R → R → Option (List ℕ) → Option (List ℕ)
    → Type 0
IsReadBy (rules.Tokens lex form) result old new before after = OnOk result (IsAtEnd after)
IsReadBy (rules.TableTokens tables form) result old new before after = OnOk result (IsAtEnd after)
IsReadBy (rules.Tables tables form) result old new before after = IsReadByTables tables.now result before after
IsReadBy (rules.Lines tables form) result old new before after = Unit {0}
IsReadBy (rules.TablesPlaced tables) result old new before after = OnOk result (IsAtEnd after)
IsReadBy (rules.BothPlaced lex yacc) result old new before after = OnOk result (IsAtEnd after)
IsReadBy (rules.Both lex yacc form) result old new before after =
    IsReadByFiles lex.now yacc.now result old new before after

-- A reader is unchanged if the files are rejected, and otherwise it returned what these rules read.
pub record IsTextRead {R : Type 0} (by : Rules) (result : Result Completion Failure) (old new : R)
    (before after : Option (List ℕ)) : Type 0 where
  pub unread : IfErr result (λ f. IsOfRules f → new ≡ old)
  pub needed : IsReadBy by result old new before after
