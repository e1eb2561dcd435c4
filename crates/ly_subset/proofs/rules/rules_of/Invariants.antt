use Rattle.std.specs.Prelude.{◌^◌}
use Rattle.ly_subset.specs.Private.Members.{listed}
use Rattle.ly_subset.specs.Private.Rules.{AreEnds}
use Rattle.ly_subset.proofs.RuleLemmas.{HaveRulesTo}
use Rattle.ly_subset.proofs.rules.rules_of.Given as goal

-- the sets before this one have their rules
abbrev pub invariant-loop-number : goal.invariant-loop-number
invariant-loop-number l = record {
  ends : AreEnds l.nfa (2 ^ 32) (listed l.ends);
  rules : HaveRulesTo l.nfa l.keys l.number l.rules.items;
}
