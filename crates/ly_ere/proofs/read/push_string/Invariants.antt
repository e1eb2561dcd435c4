use Rattle.std.proofs.Common.{◌≤◌, ◌<◌, ◌-◌, length}
use Rattle.ly_ere.specs.Arena.{part_of}
use Rattle.ly_ere.specs.Private.Levels.{IsExtended}
use Rattle.ly_ere.proofs.StringLemmas.{IsString}
use Rattle.ly_ere.proofs.read.push_string.Given as goal

abbrev pub invariant-loop-byte : goal.invariant-loop-byte
invariant-loop-byte l = record {
  within : l.at ≤ length l.behind;
  there : l.string < length l.arena;
  grown : IsExtended l.fn.arena l.arena;
  string : IsString l.behind l.at (part_of l.arena l.string);
}

abbrev pub decreases-loop-byte : goal.decreases-loop-byte
decreases-loop-byte l = length l.behind - l.at
