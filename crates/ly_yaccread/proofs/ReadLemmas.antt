-- What a reader answers where a part of it is refused.
use Rattle.std.proofs.Common.{◌≡◌, ◌≢◌, List, Result, Err}
use Rattle.ly_yaccread.specs.Private.Read.{IsFound}
use Rattle.ly_yaccread.specs.Words.{Word}
use Rattle.ly_yaccread.specs.declared.refusal.Refusal.{Refusal}
use Rattle.ly_yaccread.specs.declared.refusal.Refusal.TheVariants.{OutOfMemory}

-- the fault of a part, handed on
pub refused : {T X : Type 0} (Is : X → List Word → Type 0) (value : T → X) (rest : T → List Word)
    (r : Result T Refusal) (e f : Refusal) → r ≡ Err f → f ≡ e
    → (e ≢ OutOfMemory → (x : X) (s : List Word) → Is x s → ⊥) → IsFound Is value rest r
refused Is value rest r e f a b h = rw (a, b) h
