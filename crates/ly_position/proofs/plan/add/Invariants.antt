use Rattle.std.proofs.Common.{◌≡◌, ◌++◌, ◌<◌, ℕ, List, length}
use Rattle.std.specs.Prelude.{All}
use Rattle.ly_ere.specs.Expression.{Expression}
use Rattle.ly_ere.specs.Arena.{expressions, part_of}
use Rattle.ly_position.specs.Private.Plain.{IsPlainPart, listed}
use Rattle.ly_position.specs.Private.Slim.{slim_under}
use Rattle.ly_position.proofs.plan.add.Given as goal

-- the parts so far are the first expressions
abbrev pub invariant-loop-node : goal.invariant-loop-node
invariant-loop-node l = record {
  rest : List Expression;
  grown : l.plain ≡ l.fn.plain ++ rest;
  count : length l.parts.items ≡ l.node-index;
  within : All (IsPlainPart (length l.plain)) l.parts.items;
  each : (a : ℕ) → a < l.node-index → listed l.plain l.parts.items a
      ≡ slim_under (listed l.fn.plain l.names) (part_of (expressions l.nodes) a);
}
