use Rattle.std.proofs.Common.{◌≡◌, ◌<◌, ℕ, Some, length}
use Rattle.std.specs.Prelude.{All, slice_get}
use Rattle.ly_ere.specs.Names.{defined}
use Rattle.ly_ere.specs.declared.pattern.Rule.{Rule}
use Rattle.ly_position.specs.Written.{named_up_to, pattern_written}
use Rattle.ly_position.specs.Private.Plain.{IsPlainPart, listed}
use Rattle.ly_position.specs.Private.Slim.{slim}
use Rattle.ly_position.proofs.plan.write_out.Given as goal

-- the parts so far are the first rules
abbrev pub invariant-loop-rule : goal.invariant-loop-rule
invariant-loop-rule l = record {
  names_within : All (IsPlainPart (length l.plain)) l.definitions.items;
  named : (x : ℕ) → listed l.plain l.definitions.items x
      ≡ slim (named_up_to (defined l.names) (length (defined l.names)) x);
  count : length l.parts.items ≡ l.rule-index;
  within : All (IsPlainPart (length l.plain)) l.parts.items;
  each : (j : ℕ) (q : Rule) → j < l.rule-index → slice_get l.rules j ≡ Some q
      → listed l.plain l.parts.items j ≡ slim (pattern_written (defined l.names) q.pattern);
}
