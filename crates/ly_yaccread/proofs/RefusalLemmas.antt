-- The fault of a file whose words are refused.
use Rattle.std.proofs.Common.{◌≢◌, ℕ, List, length, arith, inl, inr, refl}
use Rattle.ly_yaccread.specs.Faults.{IsWithin}
use Rattle.ly_yaccread.specs.Private.Refusals.{IsFaultOf}
use Rattle.ly_yaccread.specs.Words.{Word, AreWordsOf}
use Rattle.ly_yaccread.specs.declared.fault.YaccFault.{YaccFault}
use Rattle.ly_yaccread.specs.declared.fault.YaccFault.TheVariants as fault
use Rattle.ly_yaccread.specs.declared.part.Part.TheVariants.{Declarations}
use Rattle.ly_yaccread.specs.declared.refusal.Refusal.{Refusal}
use Rattle.ly_yaccread.specs.declared.refusal.Refusal.TheVariants as refusal
use Rattle.ly_yaccread.proofs.WordingLemmas.{wording_within}

-- words that are refused for another reason than want of memory
pub still_refused : (r : Refusal) (bytes : ℕ) (offsets : List ℕ) (f : YaccFault) → IsFaultOf r bytes offsets f
    → f ≢ fault.OutOfMemory → r ≢ refusal.OutOfMemory
still_refused (refusal.At kind left) bytes offsets f is h e = cc e
still_refused refusal.OutOfMemory bytes offsets (fault.Refused kind o) is h e = absurd is
still_refused refusal.OutOfMemory bytes offsets fault.OutOfMemory is h e = h refl

pub fault_within : (bytes : List ℕ) (ws : List Word) (os : List ℕ) → AreWordsOf bytes ws os → (r : Refusal)
    (f : YaccFault) → IsFaultOf r (length bytes) os f → IsWithin bytes f
fault_within bytes ws os spelled r fault.OutOfMemory is = tt
fault_within bytes ws os spelled refusal.OutOfMemory (fault.Refused kind o) is = absurd is
fault_within bytes ws os spelled (refusal.At kind left) (fault.Refused other o) (same, inl there)
    = wording_within (length bytes) Declarations bytes ws os spelled o there
fault_within bytes ws os spelled (refusal.At kind left) (fault.Refused other o) (same, inr last) = omega (arith, last)
