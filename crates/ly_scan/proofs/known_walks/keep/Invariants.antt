use Rattle.std.proofs.Common.{◌≡◌, ℕ, List, length}
use Rattle.std.specs.Prelude.{All, Bool}
use Rattle.ly_scan.specs.KnownWalks.{AreKnown, IsFound}
use Rattle.ly_scan.specs.Private.KnownWalks.{HasStood}
use Rattle.ly_scan.specs.Walk.{Walk}
use Rattle.ly_scan.proofs.known_walks.keep.Given as goal

-- what is known so far is so, wherever what was known and where the walk has stood are
abbrev pub invariant-loop-stand : goal.invariant-loop-stand
invariant-loop-stand l = (walk : Walk) (ahead : ℕ → Walk) (ended : Bool) (text : List ℕ) → l.bytes ≡ length text
    → IsFound walk ended text l.longest → All (HasStood walk ahead text) l.trail
    → AreKnown ahead ended text l.fn.found.entries → AreKnown ahead ended text l.found.entries
