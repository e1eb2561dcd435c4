use Rattle.std.proofs.Common.{◌≡◌, ℕ, take, slice_index}
use Rattle.ly_pack.specs.Private.Tally.{times}
use Rattle.ly_pack.proofs.tally.count.Given as goal

abbrev pub invariant-loop-rule : goal.invariant-loop-rule
invariant-loop-rule l = (p : ℕ) → slice_index l.counts p ≡ times p (take l.rule-index l.rules)
