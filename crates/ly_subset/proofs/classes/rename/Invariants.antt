use Rattle.std.proofs.Common.{◌≡◌, ◌≤◌, ℕ, length}
use Rattle.ly_base.specs.ByteSet.{has}
use Rattle.ly_subset.specs.Classes.{class_at}
use Rattle.ly_subset.specs.Private.Classes.{AreNamed, key_by}
use Rattle.ly_subset.proofs.classes.rename.Given as goal

-- the bytes before this one are named, the others have their old classes
abbrev pub invariant-loop-byte : goal.invariant-loop-byte
invariant-loop-byte l = record {
  bytes : length l.class_of.items ≡ 256;
  room : length l.names.items ≡ 512;
  rest : (k : ℕ) → l.byte ≤ k → class_at l.class_of.items k ≡ class_at l.initial.class_of.items k;
  named : AreNamed (key_by l.initial.class_of.items (has l.bytes)) l.byte l.class_of.items l.names.items l.count;
}
