use Rattle.std.proofs.Common.{◌≡◌, ◌+◌, ◌≤◌, length, vec_len}
use Rattle.std.specs.Prelude.{vec_capacity}
use Rattle.ly_parse.specs.Private.Before.{under_top}
use Rattle.ly_parse.proofs.before.Before.note_further.Given as goal

-- what the stack was stays
abbrev pub invariant-loop-kept : goal.invariant-loop-kept
invariant-loop-kept l = record {
  same : under_top l.stack (record l.self { kept = l.kept; noted = vec_len l.self.popped })
      ≡ under_top l.stack l.fn.self;
  top : l.self.top ≡ l.fn.self.top;
  kept : l.kept ≤ length l.stack;
  room : vec_len l.self.popped + l.kept ≤ vec_capacity l.self.popped + l.height;
}

abbrev pub decreases-loop-kept : goal.decreases-loop-kept
decreases-loop-kept l = l.kept
