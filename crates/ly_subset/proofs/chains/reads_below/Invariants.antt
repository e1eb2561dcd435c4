use Rattle.std.proofs.Common.{◌<◌, ℕ, get_or}
use Rattle.ly_position.specs.Nfa.{ReadsByte}
use Rattle.ly_subset.specs.Private.Members.{listed}
use Rattle.ly_subset.proofs.chains.reads_below.Given as goal

-- none of the positions so far reads the byte
abbrev pub invariant-loop-place : goal.invariant-loop-place
invariant-loop-place l = (k : ℕ) → k < l.place → ReadsByte l.nfa (get_or (listed l.from) k 0) l.byte → ⊥
