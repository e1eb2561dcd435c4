-- Rules whose lexemes are skipped.
use Rattle.std.specs.Prelude.{◌≡◌, ℕ, List, Bool, Some, None, true, slice_get}
use Rattle.ly_feed.specs.ScanPart.{ScanPart, condition_in, terminal_in}

-- the lexemes of a rule have no effect: it returns no terminal and sets no condition
pub record IsPassedOver (p : ScanPart) (rule : ℕ) : Type 0 where
  pub condition : condition_in p rule ≡ None
  pub terminal : (bytes : List ℕ) → terminal_in p rule bytes ≡ None

-- the marked rules have this property
abbrev pub ArePassedOver : ScanPart → List Bool → Type 0
ArePassedOver p passed = (rule : ℕ) → slice_get passed rule ≡ Some true → IsPassedOver p rule
