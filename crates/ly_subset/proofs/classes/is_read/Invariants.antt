use Rattle.std.proofs.Common.{◌<◌, ℕ}
use Rattle.ly_position.specs.Nfa.{ReadsByte}
use Rattle.ly_subset.proofs.classes.is_read.Given as goal

-- none of the positions before this one reads the byte
abbrev pub invariant-loop-number : goal.invariant-loop-number
invariant-loop-number l = (p : ℕ) → p < l.number → ReadsByte l.nfa p l.byte → ⊥
