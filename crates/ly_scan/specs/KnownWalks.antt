-- The cache of walks over a text.
use Rattle.std.specs.Prelude.{◌≡◌, ◌≤◌, ◌-◌, ◌&&◌, ℕ, List, Bool, Option, None, IfSome, false, drop, length}
use Rattle.std.specs.Prelude.{nat_eq}
use Rattle.std.specs.Map.{lookup}
use Rattle.ly_base.specs.declared.numbers.RuleNo.{RuleNo}
use Rattle.ly_scan.specs.Walk.{IsBest, Walk}

-- The points of walks, each a state's number and the number of bytes left. For each the longest match from there, as
-- its length and its rule, or none.
abbrev pub Known : Type 0
Known = List ((ℕ × ℕ) × Option (ℕ × RuleNo))

-- the last n bytes of a text
abbrev pub last : ℕ → List ℕ → List ℕ
last n text = drop (length text - n) text

-- The longest match of a walk over some bytes is found, whatever bytes follow. If the text doesn't end after them, the
-- walk does.
pub record IsFound (walk : Walk) (ended : Bool) (text : List ℕ) (longest : Option (ℕ × RuleNo)) : Type 0 where
  pub best : IsBest walk text (length text) longest
  pub decided : ended ≡ false → walk text ≡ None

-- the cached match of a number and the bytes left
abbrev pub known_at : Known → ℕ × ℕ → Option (Option (ℕ × RuleNo))
known_at known stand = lookup (λ s. nat_eq stand.0 s.0 && nat_eq stand.1 s.1) known

-- the cached matches of the bytes that are left of a text are right, given the results of walks from a number on
abbrev pub AreKnown : (ℕ → Walk) → Bool → List ℕ → Known → Type 0
AreKnown ahead ended text known = (number left : ℕ) → left ≤ length text
    → IfSome (known_at known (number, left)) (IsFound (ahead number) ended (last left text))
