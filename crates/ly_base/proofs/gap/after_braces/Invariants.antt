use Rattle.std.proofs.Common.{◌≤◌, ◌↔◌, List, ℕ, drop}
use Rattle.ly_base.specs.Gap.{Closes}
use Rattle.ly_base.proofs.gap.after_braces.Given as goal

abbrev pub invariant-loop-at : goal.invariant-loop-at
invariant-loop-at l = (l.depth ≤ l.at) × ((rest : List ℕ) → Closes 0 l.inside rest
    ↔ Closes l.depth (drop l.at l.inside) rest)
