use Rattle.ly_loop.specs.Private.Edges.{IsAbove, IsFirstOf}
use Rattle.ly_loop.proofs.listed.Listed.first_passing.Given as goal

-- the first run on the terminals so far
abbrev pub invariant-loop-number : goal.invariant-loop-number
invariant-loop-number g l = IsFirstOf l.self (IsAbove l.edges l.number) l.first
