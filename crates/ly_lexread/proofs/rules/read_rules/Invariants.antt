use Rattle.std.proofs.Common.{ℕ, ◌≡◌, ◌-◌, List, ◌++◌, ◌⊎◌, length, map}
use Rattle.ly_ere.specs.declared.pattern.Rule.{Rule}
use Rattle.ly_lexread.specs.Action.{Saying}
use Rattle.ly_lexread.specs.Private.Rules.{BeginsWithRule}
use Rattle.ly_lexread.specs.Private.Statements.{saying_of}
use Rattle.ly_lexread.specs.Rules.{AreLight, AreRulesOver, HasHeavyRule, Rules}
use Rattle.ly_lexread.proofs.rules.read_rules.Given as goal

-- the rules so far and those of what is left are all rules
abbrev pub invariant-loop-left : goal.invariant-loop-left
invariant-loop-left l = record {
  sound : (so_far : List ℕ) × (l.section.starts.items ≡ map (λ n. l.text.whole - n) so_far)
      × ((rules : List Rule) (sayings : List Saying) (lefts : List ℕ)
      → Rules l.conditions l.names l.left.bytes.now rules sayings lefts
      → Rules l.conditions l.names l.text.bytes.now (l.section.rules.items ++ rules)
      (map saying_of l.section.said.items ++ sayings) (so_far ++ lefts));
  complete : (rules : List Rule) (sayings : List Saying) (lefts : List ℕ)
      → Rules l.conditions l.names l.text.bytes.now rules sayings lefts
      → (rs : List Rule) × ((ss : List Saying) × ((ls : List ℕ)
      × Rules l.conditions l.names l.left.bytes.now rs ss ls
      × (AreLight l.limits.pattern_weight l.names rules → AreLight l.limits.pattern_weight l.names rs)));
  heavy : HasHeavyRule l.limits.pattern_weight l.conditions l.names l.left.bytes.now
      → HasHeavyRule l.limits.pattern_weight l.conditions l.names l.text.bytes.now;
  light : AreLight l.limits.pattern_weight l.names l.section.rules.items;
  whole : l.left.whole ≡ l.text.whole;
  settled : AreRulesOver l.left.bytes.now ⊎ BeginsWithRule l.left.bytes.now;
}

abbrev pub decreases-loop-left : goal.decreases-loop-left
decreases-loop-left l = length l.left.bytes.now
