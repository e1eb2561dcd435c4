use Rattle.std.proofs.Common.{◌≡◌, ℕ, [], length, map}
use Rattle.ly_ere.specs.Private.Turns.{uses_at}
use Rattle.ly_ere.proofs.turns.Turns.new.Given as goal

-- nothing waits for those so far
abbrev pub invariant-loop : goal.invariant-loop
invariant-loop l = record {
  counted : length l.waiting.items ≡ l.index;
  none : (k : ℕ) → uses_at (map (λ v. v.items) l.waiting.items) k ≡ [];
}
