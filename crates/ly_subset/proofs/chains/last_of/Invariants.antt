use Rattle.std.proofs.Common.{◌<◌, ◌≤◌, ◌+◌, ℕ, get_or, length}
use Rattle.ly_position.specs.Nfa.{ReadsByte}
use Rattle.ly_subset.specs.Private.Members.{listed}
use Rattle.ly_subset.proofs.chains.last_of.Given as goal

-- none of the positions that were passed reads the byte
abbrev pub invariant-loop-passed : goal.invariant-loop-passed
invariant-loop-passed l = (k : ℕ) → k < length (listed l.from) → length (listed l.from) ≤ k + l.passed
    → ReadsByte l.nfa (get_or (listed l.from) k 0) l.byte → ⊥
