use Rattle.std.proofs.Common.{◌≡◌, ◌++◌, ◌≤◌, length, map, take}
use Rattle.ly_parse.specs.Private.Before.{under_top}
use Rattle.ly_parse.specs.Private.Copied.{states_in}
use Rattle.ly_parse.proofs.before.Before.states.Given as goal

-- those that are kept, from the bottom on
abbrev pub invariant-loop-place : goal.invariant-loop-place
invariant-loop-place l = l.states.items ≡ map (λ x. x.state) (take l.place l.stack)

-- those that are left, and what is there
abbrev pub invariant-loop-left : goal.invariant-loop-left
invariant-loop-left l = record {
  same : map (λ s. s.0) (take l.left l.self.popped.items) ++ states_in l.states.items ≡ under_top l.stack l.self;
  within : l.left ≤ length l.self.popped.items;
}

abbrev pub decreases-loop-left : goal.decreases-loop-left
decreases-loop-left l = l.left
