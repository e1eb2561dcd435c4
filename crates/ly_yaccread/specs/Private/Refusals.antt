-- The fault of a file whose words are refused.
use Rattle.std.specs.Prelude.{◌≡◌, ◌⊎◌, ◌-◌, ℕ, List, Contains}
use Rattle.ly_yaccread.specs.declared.fault.YaccFault.{YaccFault}
use Rattle.ly_yaccread.specs.declared.fault.YaccFault.TheVariants as fault
use Rattle.ly_yaccread.specs.declared.refusal.Refusal.{Refusal}
use Rattle.ly_yaccread.specs.declared.refusal.Refusal.TheVariants as refusal

-- A file of so many bytes, whose words begin at these offsets, is at fault where a word begins, or at its last byte.
abbrev pub IsFaultOf : Refusal → ℕ → List ℕ → YaccFault → Type 0
IsFaultOf (refusal.At kind left) bytes offsets (fault.Refused other offset)
    = (kind ≡ other) × (Contains offsets offset ⊎ (offset ≡ bytes - 1))
IsFaultOf refusal.OutOfMemory bytes offsets fault.OutOfMemory = Unit {0}
IsFaultOf _ bytes offsets _ = ⊥
