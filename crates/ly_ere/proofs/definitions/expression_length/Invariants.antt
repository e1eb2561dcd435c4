use Rattle.std.proofs.Common.{◌≤◌, ◌-◌, ℕ, List, drop, length, take}
use Rattle.ly_ere.specs.Elements.{AreElements, Element}
use Rattle.ly_ere.specs.Patterns.{IsBehind}
use Rattle.ly_ere.proofs.ExtentLemmas.{AreAheadOf}
use Rattle.ly_ere.proofs.definitions.expression_length.Given as goal

-- whatever elements stand at the front, those up to here are taken
abbrev pub invariant-loop-length : goal.invariant-loop-length
invariant-loop-length l = record {
  within : l.at ≤ length l.line;
  ahead : (n : ℕ) (ws : List Element) → n ≤ length l.line → AreElements (take n l.line) ws → IsBehind (drop n l.line)
      → AreAheadOf (drop l.at l.line) (drop n l.line);
}

abbrev pub decreases-loop-length : goal.decreases-loop-length
decreases-loop-length l = length l.line - l.at
