-- The answer under a lex file that was read.
use Rattle.std.specs.Prelude.{◌≡◌, ◌≤◌, ℕ, List, Option, IfSome}
use Rattle.ly_base.specs.Limits.{Sizes}
use Rattle.ly_base.specs.declared.lexeme.End.{End}
use Rattle.ly_ere.specs.Names.{defined}
use Rattle.ly_lexread.specs.declared.file.LexFile.{LexFile}
use Rattle.ly_position.specs.TotalWeight.{total_weight}
use Rattle.ly_print.specs.declared.answer_form.AnswerForm.{AnswerForm}
use Rattle.ly_subset.specs.RuleSets.{HaveMoreSets}
use Rattle.ly_tokens.specs.Answering.{IsTokenOutput}

-- The file is within the limits, and the answer is that to a text under it, in a form: to the bytes that the reader
-- had left, where these are known.
pub record FileAnswers (form : AnswerForm) (limits : Sizes) (file : LexFile) (left : Option (List ℕ)) (e : End)
    (answer : List ℕ) : Type 0 where
  pub within : total_weight (defined file.names) file.rules.items ≤ limits.total_weight
  pub few : HaveMoreSets (defined file.names) file.rules.items file.conditions limits.scanner_states → ⊥
  pub text : List ℕ
  pub is_text : IfSome left (λ bytes. text ≡ bytes)
  pub is_answer : IsTokenOutput form (defined file.names) file.rules.items file.actions.items text e answer
