-- Which fault a call hands on.
use Rattle.std.proofs.Common.{◌≡◌, ◌∙◌, ℕ, Err, Ok, sym}
use Rattle.std.specs.Prelude.{IsErrAnd, Result}
use Rattle.ly_feed.specs.declared.text_fault.TextFault.TheVariants.{Write}

-- the fault that is answered is the one that was handed on
pub same_fault : {A E : Type 0} (r : Result A E) (e fault : E) → IsErrAnd r (λ x. x ≡ e) → r ≡ Err fault → e ≡ fault
same_fault (Ok x) e fault h is = absurd h
same_fault (Err x) e fault h is = let same : x ≡ fault = cc in sym h ∙ same

pub same_count : (n k : ℕ) → Write n ≡ Write k → n ≡ k
same_count n k e = cc
