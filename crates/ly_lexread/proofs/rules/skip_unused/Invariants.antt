use Rattle.std.proofs.Common.{List, ℕ, length, ◌≡◌, ◌≤◌}
use Rattle.ly_ere.specs.Names.{Definition}
use Rattle.ly_ere.specs.declared.pattern.Rule.{Rule}
use Rattle.ly_lexread.specs.Action.{Saying}
use Rattle.ly_lexread.specs.Conditions.{Condition}
use Rattle.ly_lexread.specs.Private.Rules.{AreSkipped}
use Rattle.ly_lexread.specs.Rules.{Rules}
use Rattle.ly_lexread.proofs.rules.skip_unused.Given as goal

-- what is left stands behind lines that aren't used
abbrev pub invariant-loop-behind : goal.invariant-loop-behind
invariant-loop-behind l = record {
  skipped : (rest : List ℕ) → AreSkipped l.left.bytes.now rest → AreSkipped l.text.bytes.now rest;
  complete : (cs : List Condition) (names : List Definition) (rules : List Rule) (sayings : List Saying)
      (lefts : List ℕ)
      → Rules cs names l.text.bytes.now rules sayings lefts → Rules cs names l.left.bytes.now rules sayings lefts;
  within : length l.left.bytes.now ≤ length l.text.bytes.now;
  whole : l.left.whole ≡ l.text.whole;
}

abbrev pub decreases-loop-behind : goal.decreases-loop-behind
decreases-loop-behind l = length l.left.bytes.now
