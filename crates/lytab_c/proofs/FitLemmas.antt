-- Where a refused token ends fits 64 bits.
use Rattle.std.proofs.Common.{◌<◌, ◌^◌, ℕ, List, arith, length, map}
use Rattle.ly_feed.specs.SyntaxError.{token_of, verdict_of}
use Rattle.ly_feed.specs.TableAnswer.{IsVerdict}
use Rattle.ly_feed.specs.Verdict.{Verdict, IsOutcome, accepted, faulty, refused, unmatched}
use Rattle.ly_feed.specs.declared.syntax_error.SyntaxError.{SyntaxError}
use Rattle.ly_feed.specs.declared.syntax_error.SyntaxError.TheVariants as syntax_errors
use Rattle.ly_feed.specs.declared.outcome.Outcome.{Outcome}
use Rattle.ly_feed.specs.declared.outcome.Outcome.TheVariants.{NoRule, Syntax, Tree}
use Rattle.ly_places.proofs.WithinLemmas.{refused_within}
use Rattle.ly_print.specs.declared.answer_form.AnswerForm.{AnswerForm}
use Rattle.ly_tables.specs.TableSet.{TableSet}
use Rattle.lytab_c.specs.Answered.{IsOutput}
use Rattle.lytab_c.specs.Private.Putting.{FitsSyntaxError, FitsOutcome}

fits_by : (s : TableSet) (text : List ℕ) (v : Verdict) (o : Outcome) → length text < 2 ^ 64 → IsVerdict s text v
    → IsOutcome v o → FitsOutcome o
fits_by s text v Tree fits is of = tt
fits_by s text v (NoRule byte) fits is of = tt
fits_by s text (accepted t) (Syntax n byte count expected) fits is of = absurd (let off : ⊥ = cc in off)
fits_by s text (refused k t ts) (Syntax n byte count expected) fits is of =
    omega (arith, refused_within s text k t ts is, of.1, of.2, fits)
fits_by s text (unmatched at) (Syntax n byte count expected) fits is of = absurd (let off : ⊥ = cc in off)
fits_by s text faulty (Syntax n byte count expected) fits is of = absurd of

-- that of an answer
pub outcome_fits : (form : AnswerForm) (tables text : List ℕ) (o : Outcome) (answer : List ℕ) → length text < 2 ^ 64
    → IsOutput form tables text o answer → FitsOutcome o
outcome_fits form tables text o answer fits h =
    let told = h.2 in fits_by h.0 text told.0 o fits told.1 told.2

-- that of a flaw
pub syntax_error_fits : (s : TableSet) (text : List ℕ) (syntax_error : SyntaxError) → length text < 2 ^ 64
    → IsVerdict s text (verdict_of syntax_error)
    → FitsSyntaxError syntax_error
syntax_error_fits s text (syntax_errors.Refused number token expected) fits is =
    let within = refused_within s text number (token_of token) (map (λ t. t.0) expected.items) is in
    omega (arith, within, fits)
syntax_error_fits s text (syntax_errors.NoRule byte) fits is = tt
