use Rattle.std.proofs.Common.{refl, subst, sym}
use Rattle.std.proofs.lemmas.List.Elements.{All-map}
use Rattle.ly_base.specs.declared.version.Version.TheVariants.{V2}
use Rattle.ly_tables.specs.Private.Fitting.{DoCutsFit}
use Rattle.ly_tables.specs.Private.Short.{CutFits}
use Rattle.ly_tables.specs.Ranges.{IsWithinVersion, width_of}
use Rattle.ly_tables.specs.TableSet.{ScanRule}
use Rattle.ly_tables.specs.Values.{scan_rule_from}
use Rattle.ly_tables.proofs.RangeLemmas.{All-unmap}
use Rattle.ly_tables.proofs.VersionLemmas.{cuts_within, within_in}
use Rattle.ly_tables.proofs.fitting.is_within.Goals as goal

pub returns-then-are_counts_within-clause-within : goal.returns-then-are_counts_within-clause-within
returns-then-are_counts_within-clause-within c =
    let v = c.args.version in
    let w = width_of v in
    let rules = c.set.inside.parts.scan_rules.items in
    let fits = λ (rule : ScanRule). CutFits w rule.cut in
    let each = rw c.deref.ensures.value at c.are_cuts_within.ensures in
    let set = subst (IsWithinVersion V2) c.set.view_is c.set.invariant.0 in (
      λ e. within_in V2 v c.args.set.now set (c.if-are_counts_within.ensures.0 refl)
          (subst (DoCutsFit w) c.set.view_is (All-map fits scan_rule_from rules (each.0 e))),
      λ within. each.1 (All-unmap fits scan_rule_from rules
          (subst (DoCutsFit w) (sym c.set.view_is) (cuts_within v c.args.set.now within))),
    )
