use Rattle.std.proofs.Common.{◌≡◌, map, replicate, []}
use Rattle.ly_counterexamples.proofs.lists.Lists.new.Given as goal

-- an empty list for each number so far
abbrev pub invariant-loop : goal.invariant-loop
invariant-loop g l = map (λ list. list.items) l.lists.items ≡ replicate l.counter []
