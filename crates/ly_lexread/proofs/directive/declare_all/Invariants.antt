use Rattle.std.proofs.Common.{List, length}
use Rattle.ly_lexread.specs.Conditions.{Condition}
use Rattle.ly_lexread.specs.Definitions.{DeclaresAll}
use Rattle.ly_lexread.specs.Lines.{left_in}
use Rattle.ly_lexread.proofs.directive.declare_all.Given as goal

-- the names go on in what is left
abbrev pub invariant-loop-left : goal.invariant-loop-left
invariant-loop-left l = record {
  sound : (all : List Condition)
      → DeclaresAll l.exclusive (left_in l.line.text.bytes.now l.line.bytes.now) l.all l.left all
      → DeclaresAll l.exclusive (left_in l.line.text.bytes.now l.line.bytes.now) l.fn.conditions l.names all;
  complete : (all : List Condition)
      → DeclaresAll l.exclusive (left_in l.line.text.bytes.now l.line.bytes.now) l.fn.conditions l.names all
      → DeclaresAll l.exclusive (left_in l.line.text.bytes.now l.line.bytes.now) l.all l.left all;
}

abbrev pub decreases-loop-left : goal.decreases-loop-left
decreases-loop-left l = length l.left
