use Rattle.std.proofs.Common.{◌≡◌, map, take}
use Rattle.ly_tables.specs.Values.{scan_rule_from}
use Rattle.ly_emit.proofs.scanner_tables.scan_rules.Given as goal

-- the rules before this one are listed
abbrev pub invariant-loop-number : goal.invariant-loop-number
invariant-loop-number l = record {
  actions : map (λ r. r.action) (map scan_rule_from l.scan_rules.items) ≡ take l.number l.actions;
  cuts : map (λ r. r.cut) (map scan_rule_from l.scan_rules.items)
      ≡ map (λ r. r.pattern.cut) (take l.number l.rules);
}
