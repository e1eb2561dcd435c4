-- The table set that is generated from a lex file and a yacc file.
use Rattle.std.specs.Prelude.{◌≡◌, ◌≤◌, ◌*◌, ℕ, List, length}
use Rattle.ly_base.specs.Limits.{Sizes}
use Rattle.ly_base.specs.declared.version.Version.{Version}
use Rattle.ly_feed.specs.TableAnswer.{IsVerdict, TableAnswer}
use Rattle.ly_feed.specs.Verdict.{faulty}
use Rattle.ly_feed.specs.declared.outcome.Outcome.{Outcome}
use Rattle.ly_print.specs.declared.answer_form.AnswerForm.{AnswerForm}
use Rattle.ly_generate.specs.Accepted.{IsFit, Specifies}
use Rattle.ly_generate.specs.Headline.{IsGeneratedSet}
use Rattle.ly_generate.specs.SpecAnswer.{SpecAnswer}
use Rattle.ly_ere.specs.Names.{defined}
use Rattle.ly_join.specs.Joined.{Spec}
use Rattle.ly_lexread.specs.declared.file.LexFile.{LexFile}
use Rattle.ly_minim.specs.Smallest.{IsReducedAutomaton}
use Rattle.ly_position.specs.Nfa.{Nfa}
use Rattle.ly_position.specs.Patterns.{ArePositions}
use Rattle.ly_position.specs.Spots.{HasPositions}
use Rattle.ly_subset.specs.Automaton.{Automaton, IsBreadthFirst}
use Rattle.ly_subset.specs.Classes.{AreClasses}
use Rattle.ly_tables.specs.TableSet.{TableSet}
use Rattle.ly_tokens.specs.Scanner.{IsSubsetScanner}

-- These are the bytes of the two files, and they define this specification.
pub record IsSpecification (limits : Sizes) (lex yacc : List ℕ) (file : LexFile) (s : Spec) (A : Automaton) : Type 0
  where
    pub specifies : Specifies limits lex yacc s
    pub same_file : specifies.file ≡ file
    pub scanner : IsSubsetScanner file A
    pub few : length A.rules ≤ limits.scanner_states

-- The DFA's classes are those of the bytes that the same positions of the file's patterns read, numbered by their least
-- byte. Each condition of the file has two starts: elsewhere, and at the start of a line.
pub record HasFormOf (file : LexFile) (A : Automaton) : Type 0 where
  pub nfa : Nfa
  pub positions : ArePositions (defined file.names) file.rules.items file.conditions nfa
  pub spots : HasPositions (defined file.names) file.rules.items file.conditions nfa
  pub classes : AreClasses nfa A.class_of A.classes
  pub two_starts : A.starts ≡ 2 * file.conditions

-- The files are accepted, and the set is the one generated from them, within the ranges of a version. Its scanner is
-- the minimal DFA of the lex file's rules, with states numbered breadth first. Its classes and conditions are the
-- file's. Its result and output for any text, in each form, are those of the specification.
pub record IsGenerated (v : Version) (limits : Sizes) (lex yacc : List ℕ) (set : TableSet) : Type 0 where
  pub spec : Spec
  pub specifies : Specifies limits lex yacc spec
  pub generated : IsGeneratedSet v specifies.file specifies.written spec set
  pub fit : IsFit limits spec generated.automaton.grammar
  pub smallest : IsReducedAutomaton generated.walk
  pub order : IsBreadthFirst generated.walk
  pub form : HasFormOf specifies.file generated.walk
  pub answers : (form : AnswerForm) (text : List ℕ) (o : Outcome) (answer : List ℕ)
      → TableAnswer form set text o answer
      → SpecAnswer form specifies.file spec generated.automaton.grammar text o answer
  pub never_faulty : (text : List ℕ) → IsVerdict set text faulty → ⊥
