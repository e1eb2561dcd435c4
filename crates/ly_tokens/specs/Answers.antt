-- The output that the bytes of a lex file and of a text define.
use Rattle.std.specs.Prelude.{◌≡◌, ◌<◌, ◌≤◌, ℕ, List, Option, IfSome}
use Rattle.ly_ere.specs.Names.{defined}
use Rattle.ly_base.specs.Limits.{Sizes}
use Rattle.ly_base.specs.declared.lexeme.End.{End}
use Rattle.ly_lexread.specs.LexText.{IsLight, LexText}
use Rattle.ly_lexread.specs.declared.file.LexFile.{LexFile}
use Rattle.ly_position.specs.TotalWeight.{total_weight}
use Rattle.ly_print.specs.declared.answer_form.AnswerForm.{AnswerForm}
use Rattle.ly_subset.specs.RuleSets.{HaveMoreSets}
use Rattle.ly_tokens.specs.Answering.{IsTokenOutput}

-- the bytes of a lex file whose patterns together exceed the weight limit
abbrev pub AreTooHeavy : Sizes → List ℕ → Type 0
AreTooHeavy limits lex =
    (file : LexFile) × LexText lex file × IsLight limits.pattern_weight file
    × (limits.total_weight < total_weight (defined file.names) file.rules.items)

-- the bytes of a lex file within these limits, whose subset construction makes more sets than a scanner may have states
abbrev pub HaveTooManyStates : Sizes → List ℕ → Type 0
HaveTooManyStates limits lex =
    (file : LexFile) × LexText lex file × IsLight limits.pattern_weight file
    × (total_weight (defined file.names) file.rules.items ≤ limits.total_weight)
    × HaveMoreSets (defined file.names) file.rules.items file.conditions limits.scanner_states

-- The bytes are those of a lex file within the limits. The output is that of the lex file for the bytes that the reader
-- had left, if these are known, else for some text.
pub record Answers (form : AnswerForm) (limits : Sizes) (lex : List ℕ) (left : Option (List ℕ)) (e : End)
    (answer : List ℕ) : Type 0 where
  pub file : LexFile
  pub spelled : LexText lex file
  pub light : IsLight limits.pattern_weight file
  pub within : total_weight (defined file.names) file.rules.items ≤ limits.total_weight
  pub few : HaveMoreSets (defined file.names) file.rules.items file.conditions limits.scanner_states → ⊥
  pub text : List ℕ
  pub is_text : IfSome left (λ bytes. text ≡ bytes)
  pub is_answer : IsTokenOutput form (defined file.names) file.rules.items file.actions.items text e answer
