-- How what is known of walks grows.
use Rattle.std.specs.Prelude.{◌≡◌, ◌≤◌, ◌+◌, ◌-◌, ◌++◌, ℕ, List, Option, Some, None, if◌then◌else◌, length, nat_lt}
use Rattle.std.specs.Prelude.{take}
use Rattle.ly_base.specs.declared.numbers.RuleNo.{RuleNo}
use Rattle.ly_scan.specs.Walk.{Walk}

-- a walk over a text has stood there
abbrev pub HasStood : Walk → (ℕ → Walk) → List ℕ → ℕ × ℕ → Type 0
HasStood walk ahead text stand = (stand.1 ≤ length text)
    × ((more : List ℕ) → walk (take (length text - stand.1) text ++ more) ≡ ahead stand.0 more)

-- the longest match, by that of the bytes so far and that of those ahead
abbrev pub joined : Option (ℕ × RuleNo) → ℕ → Option (ℕ × RuleNo) → Option (ℕ × RuleNo)
joined longest passed None = longest
joined longest passed (Some m) = Some (passed + m.0, m.1)

-- the longest match from a place on that a walk has passed
abbrev pub from_passed : Option (ℕ × RuleNo) → ℕ → Option (ℕ × RuleNo)
from_passed None passed = None
from_passed (Some m) passed = if nat_lt passed m.0 then Some (m.0 - passed, m.1) else None
