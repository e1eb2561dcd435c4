-- What holds of the output of `tokens`, as statements.
use Rattle.std.specs.Prelude.{◌≡◌, ℕ, List, Some}
use Rattle.ly_base.specs.Limits.{Sizes}
use Rattle.ly_base.specs.declared.lexeme.End.{End}
use Rattle.ly_ere.specs.Names.{defined}
use Rattle.ly_lexread.specs.LexText.{LexText}
use Rattle.ly_lexread.specs.declared.file.LexFile.{LexFile}
use Rattle.ly_minim.specs.Smallest.{HaveSameRules}
use Rattle.ly_position.specs.Nfa.{Nfa}
use Rattle.ly_print.specs.declared.answer_form.AnswerForm.{AnswerForm}
use Rattle.ly_position.specs.Patterns.{ArePositions}
use Rattle.ly_subset.specs.Automaton.{Automaton}
use Rattle.ly_subset.specs.Subsets.{AreSubsets}
use Rattle.ly_tokens.specs.Agreement.{Agrees}
use Rattle.ly_tokens.specs.Answers.{Answers}
use Rattle.ly_tokens.specs.RowWalk.{cut_in, row_walk}

-- under whatever limits, a lex file and a text have one output in a form, and one end
abbrev pub AnswerIsOne : Type 0
AnswerIsOne = (form : AnswerForm) (limits others : Sizes) (lex text : List ℕ) (e f : End) (answer other : List ℕ)
    → Answers form limits lex (Some text) e answer → Answers form others lex (Some text) f other
    → (e ≡ f) × (answer ≡ other)

-- the walk over the rows of a DFA agrees with the rules of a lex file, if the DFA has the same rules as the subset
-- construction of the file's positions
abbrev pub RowWalkAgrees : Type 0
RowWalkAgrees = (lex : List ℕ) (file : LexFile) (nfa : Nfa) (A B : Automaton) → LexText lex file
    → ArePositions (defined file.names) file.rules.items file.conditions nfa → AreSubsets nfa file.conditions A
    → HaveSameRules A B
    → Agrees (defined file.names) file.rules.items (record { walk = row_walk B; cut = cut_in file.rules.items })
