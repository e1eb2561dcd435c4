use Rattle.std.proofs.Common.{◌≡◌, length, map, take}
use Rattle.ly_yaccread.specs.File.{ruling_of}
use Rattle.ly_join.specs.Counts.{greatest}
use Rattle.ly_join.proofs.limit.longest_body.Given as goal

abbrev pub invariant-loop-rule : goal.invariant-loop-rule
invariant-loop-rule l = l.longest ≡ greatest (take l.rule-index (map (λ r. length r.body) (map ruling_of l.rules)))
