use Rattle.std.proofs.Common.{◌≡◌, ℕ, ◌<◌, ◌+◌, ◌*◌, All, length}
use Rattle.ly_pack.specs.Machine.{states_of}
use Rattle.ly_pack.specs.Steady.{EndsWithin, run_bound}
use Rattle.ly_pack.specs.SteadyLaws.{reductions}
use Rattle.ly_parse.specs.Expected.{IsExpected}
use Rattle.ly_parse.specs.Private.LastRun.{AreAlike}
use Rattle.ly_parse.proofs.last_run.run.Given as goal

-- the run so far ends, and a terminal on which the states met do the same is expected from where it is just where it is
-- from the whole
abbrev pub invariant-loop-copied : goal.invariant-loop-copied
invariant-loop-copied g l = record {
  whole : l.copied.whole ≡ l.fn.copied.whole;
  room : l.met.below ≡ l.fn.met.below;
  states : All (λ s. s < states_of l.machine) l.copied.now;
  ends : EndsWithin l.machine l.terminal.0 l.copied.now ((run_bound + 1) * length l.fn.copied.whole);
  back : (u : ℕ) → AreAlike l.machine l.terminal.0 u l.met.members → IsExpected l.machine u l.copied.now
      → IsExpected l.machine u l.fn.copied.whole;
  forth : (u : ℕ) → AreAlike l.machine l.terminal.0 u l.met.members → IsExpected l.machine u l.fn.copied.whole
      → IsExpected l.machine u l.copied.now;
}

abbrev pub decreases-loop-copied : goal.decreases-loop-copied
decreases-loop-copied g l = reductions l.machine l.terminal.0 ((run_bound + 1) * length l.fn.copied.whole) l.copied.now
