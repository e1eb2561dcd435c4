use Rattle.std.proofs.Common.{List, ℕ, [], length}
use Rattle.ly_lexread.specs.Rules.{Listed}
use Rattle.ly_lexread.proofs.active.read_list.Given as goal

-- the list goes on in what is left
abbrev pub invariant-loop-number : goal.invariant-loop-number
invariant-loop-number l = record {
  sound : (all rest : List ℕ) → Listed l.conditions l.numbers.items l.left all rest
      → Listed l.conditions [] l.list all rest;
  complete : (all rest : List ℕ) → Listed l.conditions [] l.list all rest
      → Listed l.conditions l.numbers.items l.left all rest;
}

abbrev pub decreases-loop-number : goal.decreases-loop-number
decreases-loop-number l = length l.left
