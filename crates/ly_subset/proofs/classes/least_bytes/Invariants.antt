use Rattle.ly_subset.proofs.ClassLemmas.{IsLeastOf}
use Rattle.ly_subset.proofs.classes.least_bytes.Given as goal

-- the classes of the bytes before this one have their least bytes
abbrev pub invariant-loop-byte : goal.invariant-loop-byte
invariant-loop-byte l = IsLeastOf l.class_of l.byte l.least.items
