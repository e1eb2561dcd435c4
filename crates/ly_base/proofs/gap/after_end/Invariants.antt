use Rattle.std.proofs.Common.{◌≡◌, ◌++◌, ◌≤◌, List, ℕ, length}
use Rattle.ly_base.proofs.gap.after_end.Given as goal

abbrev pub invariant-loop-at : goal.invariant-loop-at
invariant-loop-at l = (a b : List ℕ) → l.inside ≡ a ++ (l.end ++ b) → l.at ≤ length a
