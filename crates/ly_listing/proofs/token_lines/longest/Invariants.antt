use Rattle.std.proofs.Common.{◌<◌, ◌≤◌, ℕ, List, get_or, length}
use Rattle.ly_listing.proofs.token_lines.longest.Given as goal

-- none of the labels so far is longer
abbrev pub invariant-loop-label : goal.invariant-loop-label
invariant-loop-label l = (k : ℕ) (d : List ℕ) → k < l.label-index → length (get_or l.labels k d) ≤ l.longest
