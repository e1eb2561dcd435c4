use Rattle.std.proofs.Common.{◌≡◌, ◌≤◌, ℕ, List, Option, subst}
use Rattle.std.specs.Prelude.{IfSome}
use Rattle.std.proofs.lemmas.Result.{IfOk-weaker}
use Rattle.ly_base.specs.Limits.{Sizes}
use Rattle.ly_base.specs.declared.lexeme.End.{End}
use Rattle.ly_ere.specs.Names.{defined}
use Rattle.ly_lexread.specs.declared.file.LexFile.{LexFile}
use Rattle.ly_position.specs.TotalWeight.{total_weight}
use Rattle.ly_print.specs.declared.answer_form.AnswerForm.{AnswerForm}
use Rattle.ly_subset.specs.RuleSets.{HaveMoreSets}
use Rattle.ly_tokens.specs.Answering.{IsTokenOutput}
use Rattle.ly_listing.specs.Listings.{end_of}
use Rattle.ly_tokens.specs.Private.FileAnswers.{FileAnswers}
use Rattle.ly_lexread.proofs.BeginLemmas.{begins_below, has_condition}
use Rattle.ly_tokens.proofs.CleanLemmas.{set_below}
use Rattle.ly_tokens.proofs.write_tokens.write_answer.Goals as goal

pub write_answer_by-requires-clause-below : goal.write_answer_by-requires-clause-below
write_answer_by-requires-clause-below g c = set_below c.args.file.now.actions.items c.args.file.now.conditions
    (begins_below c.requires.spelled.0 c.args.file.now c.requires.spelled.1)

pub write_answer_by-requires-clause-some : goal.write_answer_by-requires-clause-some
write_answer_by-requires-clause-some g c = has_condition c.requires.spelled.0 c.args.file.now c.requires.spelled.1

file_answers : (form : AnswerForm) (limits : Sizes) (file : LexFile) (left : Option (List ℕ)) (text given : List ℕ)
    (e : End)
    (answer : List ℕ) → (total_weight (defined file.names) file.rules.items ≤ limits.total_weight)
    → (HaveMoreSets (defined file.names) file.rules.items file.conditions limits.scanner_states → ⊥)
    → IfSome left (λ bytes. text ≡ bytes) → given ≡ text
    → IsTokenOutput form (defined file.names) file.rules.items file.actions.items given e answer
    → FileAnswers form limits file left e answer
file_answers form limits file left text given e answer within few is_text same is = record {
  within = within;
  few = few;
  text = text;
  is_text = is_text;
  is_answer = subst (λ t. IsTokenOutput form
      (defined file.names) file.rules.items file.actions.items t e answer) same is;
}

pub returns-clause-answered : goal.returns-clause-answered
returns-clause-answered g c = IfOk-weaker c.write_answer_by.result _ _ (λ end a. (
  a.0,
  file_answers c.args.form c.args.limits.now c.args.file.now _ c.in_ok-text.text.items c.deref.result.now
      (end_of end) a.0
      c.in_ok-lexer.ensures.within c.in_ok-lexer.ensures.few c.in_ok-text.ensures.bytes c.deref.ensures.value a.1,
  a.2,
)) c.write_answer_by.ensures.answered

pub returns-clause-beginning : goal.returns-clause-beginning
returns-clause-beginning g c = λ written is.
    let short = c.write_answer_by.ensures.beginning written is in (
      short.0,
      (
        short.1.0,
        file_answers c.args.form c.args.limits.now c.args.file.now _ c.in_ok-text.text.items c.deref.result.now
            short.0 short.1.0
            c.in_ok-lexer.ensures.within c.in_ok-lexer.ensures.few c.in_ok-text.ensures.bytes c.deref.ensures.value
            short.1.1,
        short.1.2,
      ),
    )
