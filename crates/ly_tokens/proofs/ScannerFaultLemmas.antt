-- Faults of a scanner as faults of what asks for one.
use Rattle.std.proofs.Common.{◌≡◌, Err, Result, subst, sym}
use Rattle.std.specs.Prelude.{IfErr}
use Rattle.std.specs.Result.{IsErrAnd}
use Rattle.ly_base.specs.Limits.{Sizes}
use Rattle.ly_lexread.specs.declared.file.LexFile.{LexFile}
use Rattle.ly_position.specs.declared.fault.PosFault.{PosFault}
use Rattle.ly_position.specs.declared.fault.PosFault.TheVariants as position
use Rattle.ly_subset.specs.declared.fault.SubsetFault.{SubsetFault}
use Rattle.ly_subset.specs.declared.fault.SubsetFault.TheVariants as subset
use Rattle.ly_tokens.specs.ScannerFault.{HasNoScanner, fault_of_positions, fault_of_states}

-- what is so of the fault that a result has is so of the result
pub err_is : {T E : Type 0} (r : Result T E) (x : E) (P : E → Type 0) → IsErrAnd r (λ e. e ≡ x) → P x → IfErr r P
err_is (Result.Ok v) x P is p = absurd is
err_is (Err e) x P is p = subst P (sym is) p

-- weights past the limit
pub too_heavy : (limits : Sizes) (file : LexFile) (f : PosFault)
    → (f ≡ position.TooManyPositions → HasNoScanner limits file (fault_of_positions position.TooManyPositions))
    → HasNoScanner limits file (fault_of_positions f)
too_heavy limits file position.OutOfMemory h = tt
too_heavy limits file position.TooManyPositions h = h (λ i. position.TooManyPositions)

-- states past the limit
pub too_many : (limits : Sizes) (file : LexFile) (f : SubsetFault)
    → (f ≡ subset.TooManyStates → HasNoScanner limits file (fault_of_states subset.TooManyStates))
    → HasNoScanner limits file (fault_of_states f)
too_many limits file subset.OutOfMemory h = tt
too_many limits file subset.TooManyStates h = h (λ i. subset.TooManyStates)
