use Rattle.std.proofs.Common.{◌≡◌, ◌++◌, [], ℕ, List, is_some, take, true}
use Rattle.std.specs.Prelude.{All}
use Rattle.ly_scan.specs.Private.KnownWalks.{HasStood}
use Rattle.ly_scan.specs.Walk.{IsBest}
use Rattle.ly_scan.proofs.known_walks.walk_on_known.Given as goal

-- the walk stands behind the bytes so far, the longest match of them is known, and the trail is where it has stood
abbrev pub invariant-loop-count : goal.invariant-loop-count
invariant-loop-count g l = let steps = g.S.Steps in record {
  stands : steps.stands l.steps l.at;
  alive : is_some (steps.ahead l.steps l.at []) ≡ true;
  ahead : (text : List ℕ) → steps.ahead l.steps l.at text ≡ steps.ahead l.steps l.fn.start
      (take l.count l.bytes ++ text);
  longest : IsBest (steps.ahead l.steps l.fn.start) l.bytes l.count l.longest;
  trail : All (HasStood (steps.ahead l.steps l.fn.start) (steps.ahead_by l.steps) l.bytes) l.trail.items;
}
