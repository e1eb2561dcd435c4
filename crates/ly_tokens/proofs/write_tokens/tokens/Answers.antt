use Rattle.std.proofs.Common.{◌≡◌, ◌∙◌, ℕ, List, Option, Err, Result, sym, ap, length, subst}
use Rattle.std.specs.Prelude.{IfErr}
use Rattle.std.specs.Result.{IsErrAnd}
use Rattle.std.proofs.lemmas.Result.{IfOk-weaker, err_from_is_err_and}
use Rattle.ly_lexread.specs.Faults.{IsAtMost, IsTooHeavy}
use Rattle.ly_listing.specs.declared.token_end.TokenEnd.{TokenEnd}
use Rattle.ly_lexread.specs.declared.fault.LexFault.{LexFault}
use Rattle.ly_lexread.specs.declared.fault.LexFault.TheVariants as lex
use Rattle.ly_tokens.specs.declared.fault.TokensFault.{TokensFault}
use Rattle.ly_tokens.specs.declared.fault.TokensFault.TheVariants.{Lex, OutOfMemory}
use Rattle.ly_tokens.specs.TokensFault.{HasNoTokens, fault_of_lex}
use Rattle.ly_base.specs.Limits.{Sizes, version_2}
use Rattle.ly_base.specs.declared.lexeme.End.{End}
use Rattle.ly_lexread.specs.LexText.{IsLight, LexText}
use Rattle.ly_lexread.specs.declared.file.LexFile.{LexFile}
use Rattle.ly_print.specs.declared.answer_form.AnswerForm.{AnswerForm}
use Rattle.ly_tokens.specs.Answers.{Answers}
use Rattle.ly_tokens.specs.Private.FileAnswers.{FileAnswers}
use Rattle.ly_tokens.proofs.write_tokens.tokens.Goals as goal

-- a fault of the lex file is the one that its reader gave
same_lex : (f fault : LexFault) → Lex fault ≡ fault_of_lex f → fault ≡ f
same_lex lex.OutOfMemory fault e = absurd cc
same_lex (lex.Refused kind offset) fault e = cc

not_memory : (f fault : LexFault) → Lex fault ≡ fault_of_lex f → f ≡ lex.OutOfMemory → ⊥
not_memory f fault e is = let memory : fault_of_lex f ≡ OutOfMemory = ap fault_of_lex is in cc

same_fault : {T : Type 0} (r : Result T TokensFault) (x y : TokensFault) → r ≡ Err x → r ≡ Err y → x ≡ y
same_fault r x y a b = cc

gave : (r : Result TokenEnd TokensFault) (f fault : LexFault) → IsErrAnd r (λ e. e ≡ fault_of_lex f)
    → r ≡ Err (Lex fault) → Lex fault ≡ fault_of_lex f
gave r f fault h is = let p = err_from_is_err_and r h in same_fault r (Lex fault) p.0 is p.1 ∙ p.2

pub returns-in_err-file-clause-refused : goal.returns-in_err-file-clause-refused
returns-in_err-file-clause-refused g c = λ fault is light file text.
    let e = gave c.from_residual.result c.in_err-file.field-0.0 fault c.from_residual.ensures.1 is in
    c.in_err-file.ensures.read.refused (not_memory c.in_err-file.field-0.0 fault e)
    (λ heavy. light (subst IsTooHeavy (sym (same_lex c.in_err-file.field-0.0 fault e)) heavy)) file text

pub returns-in_err-file-clause-none_light : goal.returns-in_err-file-clause-none_light
returns-in_err-file-clause-none_light g c = λ fault is heavy file text.
    let e = gave c.from_residual.result c.in_err-file.field-0.0 fault c.from_residual.ensures.1 is in
    c.in_err-file.ensures.read.none_light (subst IsTooHeavy (same_lex c.in_err-file.field-0.0 fault e) heavy) file text

answers : {form : AnswerForm} {limits : Sizes} {file : LexFile} {left : Option (List ℕ)} {e : End}
    {answer bytes : List ℕ}
    → LexText bytes file → IsLight limits.pattern_weight file → FileAnswers form limits file left e answer
    → Answers form limits bytes left e answer
answers {form} {limits} {file} spelled light a = record {
  file = file;
  spelled = spelled;
  light = light;
  within = a.within;
  few = a.few;
  text = a.text;
  is_text = a.is_text;
  is_answer = a.is_answer;
}

pub returns-clause-answered : goal.returns-clause-answered
returns-clause-answered g c = IfOk-weaker c.write_answer.result _ _
    (λ end a. (a.0, answers c.in_ok-file.ensures.read.ok c.in_ok-file.ensures.read.light a.1, a.2))
    c.write_answer.ensures.answered

pub returns-clause-beginning : goal.returns-clause-beginning
returns-clause-beginning g c = λ written is.
    let short = c.write_answer.ensures.beginning written is in (
      short.0,
      (
        short.1.0,
        answers c.in_ok-file.ensures.read.ok c.in_ok-file.ensures.read.light short.1.1,
        short.1.2.within,
        short.1.2.went_out,
      ),
    )

pub returns-clause-refused : goal.returns-clause-refused
returns-clause-refused g c = λ fault is. absurd (subst (λ r. IfErr r (HasNoTokens version_2 c.in_ok-file.file)) is
    c.write_answer.ensures.refused)

pub returns-clause-heavy_pattern : goal.returns-clause-heavy_pattern
returns-clause-heavy_pattern g c = λ fault is. absurd (subst (λ r. IfErr r (HasNoTokens version_2 c.in_ok-file.file)) is
    c.write_answer.ensures.refused)

pub returns-clause-none_light : goal.returns-clause-none_light
returns-clause-none_light g c = λ fault is. absurd (subst (λ r. IfErr r (HasNoTokens version_2 c.in_ok-file.file)) is
    c.write_answer.ensures.refused)

pub returns-clause-of_text : goal.returns-clause-of_text
returns-clause-of_text g c = λ fault is. absurd (subst (λ r. IfErr r (HasNoTokens version_2 c.in_ok-file.file)) is
    c.write_answer.ensures.refused)

pub returns-in_err-file-clause-within : goal.returns-in_err-file-clause-within
returns-in_err-file-clause-within g c = λ fault is.
    let e = gave c.from_residual.result c.in_err-file.field-0.0 fault c.from_residual.ensures.1 is in
    subst (IsAtMost (length c.args.lex.now)) (sym (same_lex c.in_err-file.field-0.0 fault e))
    c.in_err-file.ensures.within

pub returns-clause-within : goal.returns-clause-within
returns-clause-within g c = λ fault is. absurd (subst (λ r. IfErr r (HasNoTokens version_2 c.in_ok-file.file)) is
    c.write_answer.ensures.refused)

pub returns-clause-heavy : goal.returns-clause-heavy
returns-clause-heavy g c = λ fault is.
    let heavy = subst (λ r. IfErr r (HasNoTokens version_2 c.in_ok-file.file)) is c.write_answer.ensures.refused in
    (heavy.0, (c.in_ok-file.file, c.in_ok-file.ensures.read.ok, c.in_ok-file.ensures.read.light, heavy.1))

pub returns-clause-many : goal.returns-clause-many
returns-clause-many g c = λ fault is.
    let many = subst (λ r. IfErr r (HasNoTokens version_2 c.in_ok-file.file)) is c.write_answer.ensures.refused in
    (many.0, (c.in_ok-file.file, c.in_ok-file.ensures.read.ok, c.in_ok-file.ensures.read.light, many.1, many.2))
