-- An answer as two numbers.
use Rattle.std.specs.Prelude.{ℕ, Bool, Option, Some, None, nat_eq, not, ◌||◌, if◌then◌else◌}
use Rattle.ly_base.specs.declared.numbers.RuleNo.{RuleNo}
use Rattle.ly_scan.specs.declared.matching.Best.{Best}

-- the answer that they stand for: none where there is no byte
abbrev pub found : Best → Option (ℕ × RuleNo)
found b = if nat_eq b.length 0 then None else Some (b.length, b.rule)

-- whether there is an answer: not where there is no byte, and a rule
abbrev pub decided : Best → Bool
decided b = not (nat_eq b.length 0) || nat_eq b.rule.0 0
