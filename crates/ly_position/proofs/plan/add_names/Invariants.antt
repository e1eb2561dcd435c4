use Rattle.std.proofs.Common.{◌≡◌, ℕ, length}
use Rattle.std.specs.Prelude.{All}
use Rattle.ly_ere.specs.Names.{defined}
use Rattle.ly_position.specs.Written.{named_up_to}
use Rattle.ly_position.specs.Private.Plain.{IsPlainPart, listed}
use Rattle.ly_position.specs.Private.Slim.{slim}
use Rattle.ly_position.proofs.plan.add_names.Given as goal

-- the parts so far are the first definitions
abbrev pub invariant-loop-definition : goal.invariant-loop-definition
invariant-loop-definition l = record {
  count : length l.definitions.items ≡ l.definition-index;
  within : All (IsPlainPart (length l.plain)) l.definitions.items;
  each : (x : ℕ) → listed l.plain l.definitions.items x ≡ slim (named_up_to (defined l.names) l.definition-index x);
}
