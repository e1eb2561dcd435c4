-- Which parts have numbers that fit the file's.
use Rattle.std.specs.Prelude.{ℕ, ◌+◌, ◌*◌, ◌^◌, ◌<◌, All, Option, Some, None, length}
use Rattle.std.specs.Int.{Width, byte_len}
use Rattle.ly_base.specs.Shape.{Shape, nil, place, node}
use Rattle.ly_base.specs.declared.cut.Cut.{Cut}
use Rattle.ly_base.specs.declared.cut.Cut.TheVariants.{Whole, Head, Tail}
use Rattle.ly_pack.specs.Machine.{TableRule}
use Rattle.ly_pack.specs.Rows.{Used}
use Rattle.ly_tables.specs.Ranges.{AreStartsWithin, IsScanRule}
use Rattle.ly_tables.specs.RawSet.{Fits}
use Rattle.ly_tables.specs.TableSet.{ScanRule, Starts}

-- how many numbers of a width there are
abbrev pub bound_of : Width → ℕ
bound_of w = 2 ^ (8 * byte_len w)

-- a number of one byte
abbrev pub IsByte : ℕ → Type 0
IsByte n = n < 256

-- none, or a number of the width
abbrev pub OptionFits : Width → Option ℕ → Type 0
OptionFits w None = Unit {0}
OptionFits w (Some n) = Fits w n

-- none, or a number that one can be added to
abbrev pub IsCountable : Width → Option ℕ → Type 0
IsCountable w None = Unit {0}
IsCountable w (Some n) = Fits w (n + 1)

abbrev pub IsScanRuleShort : Width → ScanRule → Type 0
IsScanRuleShort w r = IsScanRule w (bound_of w) (bound_of w) r

-- a cut's length is a number of the width
abbrev pub CutFits : Width → Cut → Type 0
CutFits w Whole = Unit {0}
CutFits w (Head n) = Fits w n
CutFits w (Tail n) = Fits w n

abbrev pub AreStartsShort : Width → Starts → Type 0
AreStartsShort w c = AreStartsWithin (bound_of w) c

abbrev pub IsShapeWritten : Shape → Type 0
IsShapeWritten nil = Unit {0}
IsShapeWritten (place i) = i < 256
IsShapeWritten (node name places) = (length name < 65536) × (length places < 256) × All (λ i. i < 256) places

-- A rule whose numbers fit.
pub record IsRuleWritten (w : Width) (r : TableRule) : Type 0 where
  pub left : Fits w r.left
  pub body : r.body_length < 256
  pub shape : IsShapeWritten r.shape

-- a free slot, or one whose row and entry fit
abbrev pub IsSlotShort : {E : Type 0} → Width → (E → ℕ) → Option (Used E) → Type 0
IsSlotShort w code None = Unit {0}
IsSlotShort w code (Some u) = Fits w u.row × Fits w (code u.entry)
