use Rattle.std.proofs.Common.{arith}
use Rattle.std.proofs.lemmas.List.{length-map}
use Rattle.std.proofs.lemmas.List.Elements.{All-map}
use Rattle.ly_tables.specs.Private.RawValues.{raw_from, scan_rule_raw}
use Rattle.ly_tables.specs.RawSections.{IsScanRuleWithin}
use Rattle.ly_tables.proofs.RangeLemmas.{All-unmap}
use Rattle.ly_tables.specs.Ranges.{width_of}
use Rattle.ly_tables.proofs.scanner_ranges.scan_rules_within.Goals as goal

pub returns-then-len-most_rules : goal.returns-then-len-most_rules
returns-then-len-most_rules c =
    let rules = c.args.raw.now.scan_rules.items in
    let fits = IsScanRuleWithin (width_of c.args.version) (raw_from c.args.raw.now) in
    let each = rw c.deref.ensures.value at c.are_scan_rules_within.ensures in (
      λ e. (
        omega (arith, length-map rules scan_rule_raw, c.if-len-most_rules.true, c.len.ensures, c.most_rules.ensures),
        All-map fits scan_rule_raw rules (each.0 e),
      ),
      λ r. each.1 (All-unmap fits scan_rule_raw rules r.1),
    )
