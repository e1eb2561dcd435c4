-- What the terms on a parser's stack cost, and what its forest pays.
use Rattle.std.specs.Prelude.{ℕ, ◌≤◌, ◌+◌, ◌*◌, List, length, sum_by}
use Rattle.ly_base.specs.Shape.{Shape, node}
use Rattle.ly_parse.specs.Feeding.{Level}
use Rattle.ly_tree.specs.Costs.{budget, cost}
use Rattle.ly_tree.specs.Forest.{Grown}

-- what the terms of a stack cost together
abbrev pub stack_cost : ℕ → ℕ → List Level → ℕ
stack_cost each byte stack = sum_by (λ l. cost each byte l.term) stack

-- A forest pays for the terms of a stack, which are no children: together they use none of its parts twice.
abbrev pub IsStackPaid : Grown → List Level → Type 0
IsStackPaid f stack = (each byte : ℕ) → stack_cost each byte stack ≤ each * length stack + budget each byte f

-- how many children a rule's node has; a rule that makes none adds no child
abbrev pub places_in : Shape → ℕ
places_in (node name is) = length is
places_in _ = 0
