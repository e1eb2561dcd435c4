use Rattle.std.proofs.Common.{◌≡◌, ◌∷◌, drop}
use Rattle.ly_subset.specs.Private.Packed.{pack_runs, run_with}
use Rattle.ly_subset.proofs.packed.pack_runs.Given as goal

-- with the numbers that are left it becomes the packed list
abbrev pub invariant-loop-at : goal.invariant-loop-at
invariant-loop-at l = run_with l.running (drop l.at l.numbers) ≡ 1 ∷ pack_runs l.numbers
