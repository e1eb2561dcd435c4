use Rattle.std.proofs.Common.{◌≡◌, take}
use Rattle.ly_lexread.proofs.ConditionLemmas.{places}
use Rattle.ly_lexread.proofs.conditions.Conditions.inclusive.Given as goal

-- the places so far
abbrev pub invariant-loop-place : goal.invariant-loop-place
invariant-loop-place l = l.numbers.items ≡ places 0 (take l.place l.exclusive-items)
