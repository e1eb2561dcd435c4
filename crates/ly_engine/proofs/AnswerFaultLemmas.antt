-- Which fault a call hands on.
use Rattle.std.proofs.Common.{◌≡◌, Err, ap}
use Rattle.std.specs.Prelude.{IsErrAnd, IsErrOf, Result}
use Rattle.ly_drive.proofs.FaultLemmas.{other_fault}
use Rattle.ly_engine.specs.declared.answer_fault.AnswerFault.{AnswerFault}
use Rattle.ly_engine.specs.declared.answer_fault.AnswerFault.TheVariants.{Text}
use Rattle.ly_feed.specs.declared.text_fault.TextFault.{TextFault}

pub same_text : (e fault : TextFault) → Text e ≡ Text fault → e ≡ fault
same_text e fault is = cc

-- one that isn't answered wasn't handed on
pub other_text : {A B : Type 0} (r : Result A AnswerFault) (e fault : TextFault) → IsErrAnd r (λ x. x ≡ Text e)
    → (IsErrOf r (Text fault) → ⊥) → IsErrOf {T = B} (Err e) fault → ⊥
other_text r e fault h not is = let same : e ≡ fault = cc in other_fault r (Text e) (Text fault) h not (ap Text same)
