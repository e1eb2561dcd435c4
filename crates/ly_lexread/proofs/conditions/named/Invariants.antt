use Rattle.std.proofs.Common.{◌≡◌, map, take}
use Rattle.std.specs.Prelude.{zip}
use Rattle.ly_lexread.specs.LexText.{declared_at, said_of}
use Rattle.ly_lexread.proofs.conditions.named.Given as goal

-- those of the names so far
abbrev pub invariant-loop-place : goal.invariant-loop-place
invariant-loop-place l = map said_of l.all.items
    ≡ zip (map (λ k. k.items) (take l.place l.names.keys)) (map (declared_at l.whole) (take l.place l.lefts))
