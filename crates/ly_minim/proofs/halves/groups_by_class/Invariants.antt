use Rattle.std.specs.Prelude.{All}
use Rattle.ly_minim.specs.Private.Halves.{IsByClass}
use Rattle.ly_minim.proofs.halves.groups_by_class.Given as goal

-- the groups so far are those of classes
abbrev pub invariant-loop-class : goal.invariant-loop-class
invariant-loop-class l = All (IsByClass l.dfa) l.by_class.items
