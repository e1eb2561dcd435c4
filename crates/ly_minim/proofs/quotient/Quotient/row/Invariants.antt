use Rattle.std.proofs.Common.{◌≡◌, ◌<◌, ◌≤◌, ◌+◌, ◌*◌, length}
use Rattle.ly_minim.specs.Private.Quotient.{AreNumbered, IsQuotient, pick_of}
use Rattle.ly_minim.proofs.quotient.Quotient.row.Given as goal

-- the entries of the classes before this one are there
abbrev pub invariant-loop-class : goal.invariant-loop-class
invariant-loop-class l = record {
  quotient : IsQuotient l.dfa l.blocks.of.items l.self;
  numbered : AreNumbered l.blocks l.self;
  state : l.state < length l.self.picked.items;
  from : l.from ≡ pick_of l.self.picked.items l.state;
  at : length l.self.entries.items ≡ l.dfa.starts + (l.state * l.dfa.classes + l.class);
  longer : length l.initial.self.picked.items ≤ length l.self.picked.items;
}
