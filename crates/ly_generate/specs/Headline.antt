-- What generated tables output.
use Rattle.std.specs.Prelude.{ℕ, List}
use Rattle.ly_base.specs.declared.version.Version.{Version}
use Rattle.ly_feed.specs.TableAnswer.{IsVerdict, TableAnswer}
use Rattle.ly_feed.specs.Verdict.{Verdict}
use Rattle.ly_feed.specs.declared.outcome.Outcome.{Outcome}
use Rattle.ly_print.specs.declared.answer_form.AnswerForm.{AnswerForm}
use Rattle.ly_emit.specs.SetOf.{IsSetOf}
use Rattle.ly_tokens.specs.Agreement.{Agrees}
use Rattle.ly_tokens.specs.RowWalk.{cut_in, row_walk}
use Rattle.ly_ere.specs.Names.{defined}
use Rattle.ly_grammar.specs.Reduction.{KeepsUseful}
use Rattle.ly_generate.specs.SpecAnswer.{IsSpecVerdict, SpecAnswer}
use Rattle.ly_join.specs.Joined.{Joined, Spec}
use Rattle.ly_join.specs.Scanning.{scanning_of}
use Rattle.ly_lexread.specs.declared.file.LexFile.{LexFile}
use Rattle.ly_lr0.specs.Automaton.{Lr0Automaton, IsLr0Automaton}
use Rattle.ly_subset.specs.Automaton as scanner
use Rattle.ly_tables.specs.TableSet.{TableSet}
use Rattle.ly_yaccread.specs.File.{Written}
use Rattle.ly_tables.specs.Ranges.{IsWithinVersion}
use Rattle.ly_pack.specs.Steady.{IsSteady}
use Rattle.ly_tables.specs.TableSet.{machine_of}

-- The table set is made of a specification, of the automaton of its useful rules, and of a DFA whose walk agrees with
-- the rules of the lex file. It is within the ranges of a version.
pub record IsGeneratedSet (v : Version) (file : LexFile) (w : Written) (s : Spec) (set : TableSet) : Type 0 where
  pub joined : Joined (scanning_of file) w s
  pub automaton : Lr0Automaton
  pub is_automaton : IsLr0Automaton automaton
  pub useful : KeepsUseful s.grammar automaton.grammar
  pub walk : scanner.Automaton
  pub is_walk : scanner.IsAutomaton walk
  pub agrees : Agrees (defined file.names) file.rules.items
      (record { walk = row_walk walk; cut = cut_in file.rules.items })
  pub is_set : IsSetOf s automaton file.rules.items walk set
  pub within : IsWithinVersion v set
  pub steady : IsSteady (machine_of set)

-- Such a table set gives for a text the result of the specification, and never an error of the tables.
abbrev pub TablesAnswerAsSpecified : Type 0
TablesAnswerAsSpecified = (version : Version) (file : LexFile) (w : Written) (s : Spec) (set : TableSet)
    (g : IsGeneratedSet version file w s set) (text : List ℕ) (v : Verdict) → IsVerdict set text v
    → IsSpecVerdict file s g.automaton.grammar text v

-- So its output for a text is the specification's, in each form.
abbrev pub AnswersAreOfSpecification : Type 0
AnswersAreOfSpecification = (version : Version) (file : LexFile) (w : Written) (s : Spec) (set : TableSet)
    (g : IsGeneratedSet version file w s set) (form : AnswerForm) (text : List ℕ) (o : Outcome) (answer : List ℕ)
    → TableAnswer form set text o answer → SpecAnswer form file s g.automaton.grammar text o answer
