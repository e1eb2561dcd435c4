use Rattle.std.proofs.Common.{◌≡◌, ◌≤◌, ◌+◌, ◌*◌, ◌-◌, length}
use Rattle.ly_minim.specs.Private.Quotient.{AreNumbered, IsQuotient}
use Rattle.ly_minim.proofs.quotient.blocks_met.Given as goal

-- the starts before this one are there
abbrev pub invariant-loop-place : goal.invariant-loop-place
invariant-loop-place l = record {
  quotient : IsQuotient l.dfa l.blocks.of.items l.quotient;
  numbered : AreNumbered l.blocks l.quotient;
  at : length l.quotient.entries.items ≡ l.place;
}

-- the rows of the states before this one are there
abbrev pub invariant-loop-state : goal.invariant-loop-state
invariant-loop-state l = record {
  quotient : IsQuotient l.dfa l.blocks.of.items l.quotient;
  numbered : AreNumbered l.blocks l.quotient;
  state : l.state ≤ length l.quotient.picked.items;
  at : length l.quotient.entries.items ≡ l.dfa.starts + l.state * l.dfa.classes;
}

abbrev pub decreases-loop-state : goal.decreases-loop-state
decreases-loop-state l = l.blocks.count - l.state
