use Rattle.std.proofs.Common.{◌≡◌, ◌<◌, All, take}
use Rattle.ly_emit.proofs.scanner_tables.classes.Given as goal

-- the classes of the bytes before this one are listed
abbrev pub invariant-loop-byte : goal.invariant-loop-byte
invariant-loop-byte l = record {
  these : l.classes.items ≡ take l.byte l.dfa.class_of;
  bytes : All (λ class. class < 256) l.classes.items;
}
