-- The cut of a pattern's sides, as it is found.
use Rattle.std.specs.Prelude.{◌≡◌, ◌≢◌, ◌<◌, ◌≤◌, ◌⊎◌, ℕ, List, [], Option, Some, None, IsSome}
use Rattle.ly_base.specs.declared.cut.Cut.{Cut}
use Rattle.ly_base.specs.declared.cut.Cut.TheVariants.{Head, Tail}
use Rattle.ly_ere.specs.Expression.{Expression, Matches}
use Rattle.ly_ere.specs.Faults.{ere_kind}
use Rattle.ly_ere.specs.Grammar.{Sides}
use Rattle.ly_ere.specs.Lengths.{IsSound, far}
use Rattle.ly_ere.specs.Names.{Definition, defined}
use Rattle.ly_ere.specs.Patterns.{BothVary, HasEmptyHead, IsCutOf, sides_weight}
use Rattle.ly_ere.specs.declared.fault.EreFault.{EreFault}
use Rattle.ly_ere.specs.declared.fault.EreFault.TheVariants.{OutOfMemory}
use Rattle.ly_ere.specs.declared.fault.EreFaultKind.{EreFaultKind}
use Rattle.ly_ere.specs.declared.fault.EreFaultKind.TheVariants.{TooHeavy, TrailingBothVary, TrailingHeadEmpty}
use Rattle.ly_ere.specs.declared.length.Lengths.{Lengths}

-- the tail, if there is one, is sound
abbrev pub IsSoundTail : ℕ → Option Expression → Type 0
IsSoundTail n None = Unit {0}
IsSoundTail n (Some t) = IsSound n t

-- both sides are
abbrev pub AreSoundSides : ℕ → Sides → Type 0
AreSoundSides n s = IsSound n s.head × IsSoundTail n s.tail

-- the cut of sides whose head has a byte where a tail follows
abbrev pub IsCutOfSides : List Expression → Sides → Cut → Type 0
IsCutOfSides names s cut = IsCutOf names s.head s.tail cut × (IsSome s.tail → Matches names s.head [] → ⊥)

-- Why sides are no pattern that is light enough.
pub record IsJudged (most : ℕ) (names : List Definition) (s : Sides) (fault : EreFault) : Type 0 where
  pub only : fault ≢ OutOfMemory → ere_kind fault ≢ Some TooHeavy → (ere_kind fault ≡ Some TrailingBothVary)
      ⊎ (ere_kind fault ≡ Some TrailingHeadEmpty)
  pub vary : ere_kind fault ≡ Some TrailingBothVary → BothVary (defined names) s
  pub empty_head : ere_kind fault ≡ Some TrailingHeadEmpty → HasEmptyHead (defined names) s
  pub heavy : ere_kind fault ≡ Some TooHeavy → most < sides_weight names s

-- all strings are of the least length, and that is counted
abbrev pub IsFixed : Lengths → Type 0
IsFixed l = (l.most ≤ l.least) × (l.least < far)

-- the cut is told by the lengths of a head and a tail
abbrev pub IsToldBy : Lengths → Lengths → Cut → Type 0
IsToldBy h t cut = (0 < h.least) × ((IsFixed h × (cut ≡ Head h.least))
    ⊎ ((h.least < h.most) × IsFixed t × (cut ≡ Tail t.least)))

-- Why the lengths of a head and a tail tell no cut.
pub record IsUntold (h t : Lengths) (kind : EreFaultKind) : Type 0 where
  pub only : kind ≢ TooHeavy → (kind ≡ TrailingBothVary) ⊎ (kind ≡ TrailingHeadEmpty)
  pub vary : kind ≡ TrailingBothVary → (h.least < h.most) × (t.least < t.most)
  pub empty_head : kind ≡ TrailingHeadEmpty → h.least ≡ 0
  pub heavy : kind ≡ TooHeavy → (far ≤ h.least) ⊎ (far ≤ t.least)
