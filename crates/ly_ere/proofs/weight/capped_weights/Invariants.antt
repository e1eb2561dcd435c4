use Rattle.std.proofs.Common.{◌≡◌, ◌≤◌, ℕ, map, take, get_or, length}
use Rattle.std.specs.Prelude.{min}
use Rattle.ly_ere.specs.Arena.{expressions}
use Rattle.ly_ere.specs.Weight.{weight_at}
use Rattle.ly_ere.specs.Weight.{weight_under}
use Rattle.ly_ere.proofs.weight.capped_weights.Given as goal

abbrev pub invariant-loop-node : goal.invariant-loop-node
invariant-loop-node l = record {
  counted : length l.weights.items ≡ l.node-index;
  capped : (k : ℕ) → get_or l.weights.items k 0 ≤ l.cap;
  so_far : l.weights.items
      ≡ map (λ e. min (weight_under (weight_at l.named) e) l.cap) (expressions (take l.node-index l.nodes));
}
