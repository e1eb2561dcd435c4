-- How a feed answers a text that has ended.
use Rattle.std.proofs.Common.{◌≡◌, ◌∙◌, ℕ, List, [], Err, Ok, Option, Result, ap, length, refl, subst, sym}
use Rattle.std.specs.Io.KnownBytes.{Appends}
use Rattle.std.specs.Prelude.{Bool, IfErr, IfOk, IsErrAnd}
use Rattle.ly_base.specs.Lexed.{Place}
use Rattle.ly_feed.proofs.SettledLemmas.{nothing_more}
use Rattle.ly_feed.specs.Held.{Held, IsAnswerOf, IsRestOf}
use Rattle.ly_feed.specs.Private.Feeding.{held_from}
use Rattle.ly_feed.specs.Closed.{IsClosed, IsVerdictOf, progress_of}
use Rattle.ly_feed.specs.ScanPart.{ScanPart, scan_part_of}
use Rattle.ly_feed.specs.TableAnswer.{IsRest, Progress}
use Rattle.ly_feed.specs.TextFault.{IsOfEnding, IsOfWriting}
use Rattle.ly_feed.specs.Verdict.{IsOutcome, Verdict, faulty, written_in}
use Rattle.ly_feed.specs.Vocabularies.{vocabulary_of}
use Rattle.ly_feed.specs.declared.syntax_error.SyntaxError.TheVariants as syntax_error
use Rattle.ly_feed.specs.declared.outcome.Outcome.{Outcome}
use Rattle.ly_feed.specs.declared.outcome.Outcome.TheVariants.{NoRule, Syntax, Tree}
use Rattle.ly_feed.specs.declared.running.Ended.{Ended}
use Rattle.ly_feed.specs.declared.running.Ended.TheVariants.{Accepted, Refused}
use Rattle.ly_feed.specs.declared.text_fault.TextFault.{TextFault}
use Rattle.ly_feed.specs.declared.text_fault.TextFault.TheVariants as text
use Rattle.ly_pack.specs.Machine.{Machine}
use Rattle.ly_parse.specs.Parse.{Parse}
use Rattle.ly_print.specs.declared.answer_form.AnswerForm.{AnswerForm}
use Rattle.ly_tables.specs.TableSet.{TableSet, machine_of}
use Rattle.ly_tree.specs.Forest.{Grown}

-- what is said where the run stands is said of what the feed holds
pub rest_of : (set : TableSet) (form : AnswerForm) (q z : Place) (s : Parse) (over : Bool) (f : Held) (v : Verdict)
    → held_from set form q s over ≡ f → z ≡ q → IsRest (scan_part_of set) (machine_of set) (progress_of z s) v
    → IsRestOf f [] v
rest_of set form q z s over f v view at said = subst (λ x. IsRestOf x [] v) view
    (subst (λ w. IsRest (scan_part_of set) (machine_of set) w v) (sym (nothing_more (progress_of q s) [] refl))
    (subst (λ x. IsRest (scan_part_of set) (machine_of set) (progress_of x s) v) at said))

-- the tables' fault
pub at_fault : {A : Type 0} (p : ScanPart) (m : Machine) (w : Progress) (forest : Grown) (e : TextFault)
    (result : Result A TextFault) → IsClosed p m w forest (Err e) → IsErrAnd result (λ x. x ≡ e)
    → result ≡ Err text.FaultyTables → IsRest p m w faulty
at_fault p m w forest e (Ok x) closed is failed = absurd is
at_fault p m w forest text.FaultyTables (Err x) closed is failed = closed
at_fault p m w forest text.OutOfMemory (Err x) closed is failed = absurd cc
at_fault p m w forest text.TooLong (Err x) closed is failed = absurd closed
at_fault p m w forest text.Read (Err x) closed is failed = absurd closed
at_fault p m w forest (text.Write written) (Err x) closed is failed = absurd closed

-- a text that has ended is not too long, and nothing is read then
pub fault_of_ending : {A : Type 0} (p : ScanPart) (m : Machine) (w : Progress) (forest : Grown) (e : TextFault)
    (result : Result A TextFault) → IsClosed p m w forest (Err e) → IsErrAnd result (λ x. x ≡ e)
    → IfErr result IsOfEnding
fault_of_ending p m w forest e (Ok x) closed is = tt
fault_of_ending p m w forest text.FaultyTables (Err x) closed is = subst IsOfEnding (sym is) tt
fault_of_ending p m w forest text.OutOfMemory (Err x) closed is = subst IsOfEnding (sym is) tt
fault_of_ending p m w forest text.TooLong (Err x) closed is = absurd closed
fault_of_ending p m w forest text.Read (Err x) closed is = absurd closed
fault_of_ending p m w forest (text.Write written) (Err x) closed is = absurd closed

-- a fault of writing is one of the end
pub writing_ends : {A : Type 0} (r : Result A TextFault) → IfErr r IsOfWriting → IfErr r IsOfEnding
writing_ends (Ok x) is = tt
writing_ends (Err text.OutOfMemory) is = tt
writing_ends (Err (text.Write written)) is = tt
writing_ends (Err text.FaultyTables) is = absurd is
writing_ends (Err text.TooLong) is = absurd is
writing_ends (Err text.Read) is = absurd is

-- a verdict that a value stands for has an outcome
pub outcome_of : (forest : Grown) (ended : Ended) (v : Verdict) → IsVerdictOf forest ended v
    → (o : Outcome) × IsOutcome v o
outcome_of forest (Accepted root) v is = (Tree, subst (λ x. IsOutcome x Tree) (sym is.1) refl)
outcome_of forest (Refused (syntax_error.Refused number token expected)) v is = (
  Syntax number token.at (length token.text) expected,
  subst (λ x. IsOutcome x (Syntax number token.at (length token.text) expected)) (sym is) (refl, refl, refl, refl),
)
outcome_of forest (Refused (syntax_error.NoRule byte)) v is =
    (NoRule byte, subst (λ x. IsOutcome x (NoRule byte)) (sym is) refl)

-- what was written is the answer
pub answered : {E : Type 0} (f : Held) (set : TableSet) (form : AnswerForm) (v : Verdict) (forest : Grown)
    (ended : Ended) (before after : Option (List ℕ)) (result : Result Outcome E) → f.set ≡ set → f.form ≡ form
    → IsRestOf f [] v → IsVerdictOf forest ended v
    → IfOk result (λ o. (v : Verdict) → IsVerdictOf forest ended v → IsOutcome v o
    × Appends before after (written_in form (vocabulary_of set) v))
    → IfOk result (λ o. (answer : List ℕ) × IsAnswerOf f o answer × Appends before after answer)
answered f set form v forest ended before after (Ok o) same_set same_form rest said h = (
  written_in form (vocabulary_of set) v,
  (
    v,
    rest,
    (h v said).0,
    ap (λ s. written_in form (vocabulary_of s) v) (sym same_set)
        ∙ ap (λ x. written_in x (vocabulary_of f.set) v) (sym same_form),
  ),
  (h v said).1,
)
answered f set form v forest ended before after (Err e) same_set same_form rest said h = tt
