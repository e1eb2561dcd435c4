use Rattle.std.proofs.Common.{◌≡◌, map, replicate, []}
use Rattle.ly_lr0.proofs.by_left.RulesByLeft.new.Given as goal

-- a list without rules for each nonterminal so far
abbrev pub invariant-loop : goal.invariant-loop
invariant-loop l = map (λ rules. rules.items) l.lists.items ≡ replicate l.counter []
