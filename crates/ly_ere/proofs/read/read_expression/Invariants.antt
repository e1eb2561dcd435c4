use Rattle.std.proofs.Common.{◌≤◌, ◌-◌, drop, length}
use Rattle.std.specs.Prelude.{All}
use Rattle.ly_ere.specs.Private.Levels.{ArePartsBelow, reading_of}
use Rattle.ly_ere.proofs.ReadLemmas.{IsRead}
use Rattle.ly_ere.proofs.read.read_expression.Given as goal

-- the elements so far make what is held
abbrev pub invariant-loop-rest : goal.invariant-loop-rest
invariant-loop-rest l = record {
  within : l.at ≤ length l.line;
  parts : ArePartsBelow (length l.arena) l.level;
  outer_parts : All (ArePartsBelow (length l.arena)) l.outer.items;
  read : IsRead l.names l.line (drop l.at l.line) (reading_of l.arena l.outer.items l.level);
}

abbrev pub decreases-loop-rest : goal.decreases-loop-rest
decreases-loop-rest l = length l.line - l.at
