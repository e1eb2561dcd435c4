use Rattle.std.proofs.Common.{◌++◌, map, take}
use Rattle.ly_feed.specs.Vocabularies.{constructor_of}
use Rattle.ly_pack.specs.Values.{rule_from}
use Rattle.lytab_c.specs.Private.Listing.{IsListOf}
use Rattle.lytab_c.proofs.name_list.NameList.of.Given as goal

abbrev pub invariant-loop-name : goal.invariant-loop-name
invariant-loop-name l = IsListOf (map (λ n. n.items) (take l.name-index l.name-items)) l.list

abbrev pub invariant-loop-rule : goal.invariant-loop-rule
invariant-loop-rule l = IsListOf (l.fn.set.terminals ++ map (λ r. constructor_of (rule_from r).shape)
    (take l.rule-index l.rule-items)) l.list
