use Rattle.std.proofs.Common.{◌≡◌, ◌++◌, ℕ, List, take}
use Rattle.ly_scan.specs.Walk.{IsBest}
use Rattle.ly_scan.proofs.matching.best_of_all.Given as goal

-- the walk stands behind the bytes so far, and the best of them is known
abbrev pub invariant-loop-passed : goal.invariant-loop-passed
invariant-loop-passed g l = let steps = g.S.Steps in record {
  stands : steps.stands l.steps l.at;
  ahead : (text : List ℕ) → steps.ahead l.steps l.at text ≡ steps.ahead l.steps l.fn.start
      (take l.passed l.rest ++ text);
  best : IsBest (steps.ahead l.steps l.fn.start) l.rest l.passed l.best;
}
