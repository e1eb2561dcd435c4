use Rattle.std.proofs.Common.{◌++◌, ◌+◌, ℕ, List, Some, take}
use Rattle.std.specs.Prelude.{Bool}
use Rattle.ly_scan.specs.Matcher.{IsUnderway}
use Rattle.ly_scan.proofs.matcher.Matcher.piece.Given as goal

-- the walk stands behind the bytes so far, and the best of their beginnings is known
abbrev pub invariant-loop-count : goal.invariant-loop-count
invariant-loop-count g l = let steps = g.S.Steps in record {
  stands : steps.stands l.steps l.at;
  on : (condition : ℕ) (line : Bool) (seen : List ℕ)
      → IsUnderway (steps.walk l.steps condition line) (steps.ahead l.steps) (steps.stands l.steps) seen l.fn.self
      → IsUnderway (steps.walk l.steps condition line) (steps.ahead l.steps) (steps.stands l.steps)
      (seen ++ take l.count l.bytes) (record { at = Some l.at; passed = l.fn.self.passed + l.count; best = l.best });
}
