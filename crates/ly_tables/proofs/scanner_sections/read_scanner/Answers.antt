use Rattle.std.proofs.Common.{◌∙◌, ◌++◌, ap, length, map, subst, sym}
use Rattle.ly_tables.proofs.BeginningLemmas.{begun_as, begun_behind, begun_first, stopped}
use Rattle.ly_tables.proofs.ChainLemmas.{some_number_then}
use Rattle.ly_tables.proofs.SectionLemmas.{bytes_part, counted_part, counted_values, scanner_fit, scanner_together}
use Rattle.ly_tables.proofs.SectionLemmas.{scanner_part, some_accepted, some_classes, some_comb, some_conditions}
use Rattle.ly_tables.specs.Private.Parts.{AreBytes, IsBeginning, IsCombText}
use Rattle.ly_tables.specs.Private.RawValues.{comb_raw, scan_rule_raw, starts_raw}
use Rattle.ly_tables.specs.RawSet.{CombFits, Fits, ScanRuleFits, StartsFit, raw_scan_rule, raw_starts}
use Rattle.ly_tables.specs.Spelling.{number}
use Rattle.ly_tables.specs.Ranges.{width_of}
use Rattle.ly_tables.proofs.scanner_sections.read_scanner.Goals as goal

pub returns-in_err-scan_rules-clause-truncated : goal.returns-in_err-scan_rules-clause-truncated
returns-in_err-scan_rules-clause-truncated c =
    let w = width_of c.args.version in
    let error = c.in_err-scan_rules in let handed = c.from_residual in
    stopped handed.result error.field-0.0 handed.ensures.1 error.ensures.truncated (λ begun. begun_as (scanner_part w)
    (begun_first (λ v fit. some_conditions w) (begun_as (counted_part w (ScanRuleFits w) (raw_scan_rule w)) begun)))

pub returns-in_err-conditions-clause-truncated : goal.returns-in_err-conditions-clause-truncated
returns-in_err-conditions-clause-truncated c =
    let w = width_of c.args.version in
    let scan_rules = c.in_ok-scan_rules in let error = c.in_err-conditions in let handed =
    c.from_residual-in_err-conditions in
    stopped handed.result error.field-0.0 handed.ensures.1 error.ensures.truncated (λ begun. begun_as (scanner_part w)
    (begun_behind (map scan_rule_raw scan_rules.scan_rules.items) _ (counted_values w (ScanRuleFits w) (raw_scan_rule
    w) scan_rule_raw scan_rules.scan_rules.items _ _ scan_rules.ensures.count scan_rules.ensures.fits
    scan_rules.ensures.ok) (begun_first (λ v fit. some_number_then w (some_classes w)) (begun_as (counted_part w
    (StartsFit
    w) (raw_starts w)) begun))))

pub returns-in_err-class_count-clause-truncated : goal.returns-in_err-class_count-clause-truncated
returns-in_err-class_count-clause-truncated c =
    let w = width_of c.args.version in
    let scan_rules = c.in_ok-scan_rules in let conditions = c.in_ok-conditions in let error = c.in_err-class_count in
    let handed = c.from_residual-in_err-class_count in
    stopped handed.result error.field-0.0 handed.ensures.1 error.ensures.truncated (λ begun. begun_as (scanner_part w)
    (begun_behind (map scan_rule_raw scan_rules.scan_rules.items) _ (counted_values w (ScanRuleFits w) (raw_scan_rule
    w) scan_rule_raw scan_rules.scan_rules.items _ _ scan_rules.ensures.count scan_rules.ensures.fits
    scan_rules.ensures.ok) (begun_behind (map starts_raw conditions.conditions.items) _ (counted_values w (StartsFit
    w) (raw_starts w) starts_raw conditions.conditions.items _ _ conditions.ensures.count conditions.ensures.fits
    conditions.ensures.ok) (begun_first (λ v fit. some_classes w) begun))))

pub returns-in_err-class_bytes-clause-truncated : goal.returns-in_err-class_bytes-clause-truncated
returns-in_err-class_bytes-clause-truncated c =
    let w = width_of c.args.version in
    let scan_rules = c.in_ok-scan_rules in let conditions = c.in_ok-conditions in let class_count =
    c.in_ok-class_count in let error = c.in_err-class_bytes in let handed = c.from_residual-in_err-class_bytes in
    stopped handed.result error.field-0.0 handed.ensures.1 error.ensures.truncated (λ begun. begun_as (scanner_part w)
    (begun_behind (map scan_rule_raw scan_rules.scan_rules.items) _ (counted_values w (ScanRuleFits w) (raw_scan_rule
    w) scan_rule_raw scan_rules.scan_rules.items _ _ scan_rules.ensures.count scan_rules.ensures.fits
    scan_rules.ensures.ok) (begun_behind (map starts_raw conditions.conditions.items) _ (counted_values w (StartsFit
    w) (raw_starts w) starts_raw conditions.conditions.items _ _ conditions.ensures.count conditions.ensures.fits
    conditions.ensures.ok) (begun_behind class_count.class_count _ class_count.ensures.ok (begun_first (λ v fit.
    some_accepted w) (begun_as (bytes_part 256) begun))))))

pub returns-in_err-accepted-clause-truncated : goal.returns-in_err-accepted-clause-truncated
returns-in_err-accepted-clause-truncated c =
    let w = width_of c.args.version in
    let scan_rules = c.in_ok-scan_rules in let conditions = c.in_ok-conditions in let class_count =
    c.in_ok-class_count in let class_bytes = c.in_ok-class_bytes in let error = c.in_err-accepted in let handed =
    c.from_residual-in_err-accepted in
    stopped handed.result error.field-0.0 handed.ensures.1 error.ensures.truncated (λ begun. begun_as (scanner_part w)
    (begun_behind (map scan_rule_raw scan_rules.scan_rules.items) _ (counted_values w (ScanRuleFits w) (raw_scan_rule
    w) scan_rule_raw scan_rules.scan_rules.items _ _ scan_rules.ensures.count scan_rules.ensures.fits
    scan_rules.ensures.ok) (begun_behind (map starts_raw conditions.conditions.items) _ (counted_values w (StartsFit
    w) (raw_starts w) starts_raw conditions.conditions.items _ _ conditions.ensures.count conditions.ensures.fits
    conditions.ensures.ok) (begun_behind class_count.class_count _ class_count.ensures.ok (begun_behind
    class_bytes.class_bytes.now _ class_bytes.ensures.ok (begun_first (λ v fit. some_comb w (length v)) (begun_as
    (counted_part w (Fits w) (number w)) begun)))))))

pub returns-in_err-rows-clause-truncated : goal.returns-in_err-rows-clause-truncated
returns-in_err-rows-clause-truncated c =
    let w = width_of c.args.version in
    let scan_rules = c.in_ok-scan_rules in let conditions = c.in_ok-conditions in let class_count =
    c.in_ok-class_count in let class_bytes = c.in_ok-class_bytes in let accepted = c.in_ok-accepted in let error =
    c.in_err-rows in let handed = c.from_residual-in_err-rows in
    stopped handed.result error.field-0.0 handed.ensures.1 error.ensures.truncated (λ begun. begun_as (scanner_part w)
    (begun_behind (map scan_rule_raw scan_rules.scan_rules.items) _ (counted_values w (ScanRuleFits w) (raw_scan_rule
    w) scan_rule_raw scan_rules.scan_rules.items _ _ scan_rules.ensures.count scan_rules.ensures.fits
    scan_rules.ensures.ok) (begun_behind (map starts_raw conditions.conditions.items) _ (counted_values w (StartsFit
    w) (raw_starts w) starts_raw conditions.conditions.items _ _ conditions.ensures.count conditions.ensures.fits
    conditions.ensures.ok) (begun_behind class_count.class_count _ class_count.ensures.ok (begun_behind
    class_bytes.class_bytes.now _ class_bytes.ensures.ok (begun_behind accepted.accepted.items _
    ((accepted.ensures.count, accepted.ensures.fits), accepted.ensures.ok) (subst (λ n. IsBeginning (IsCombText w n)
    accepted.left.now) (c.len.ensures ∙ accepted.accepted.ok.0) begun)))))))

pub returns-clause-fits : goal.returns-clause-fits
returns-clause-fits c =
    let w = width_of c.args.version in
    let rules = c.in_ok-scan_rules in let conditions = c.in_ok-conditions in let count = c.in_ok-class_count in let
    class_bytes = c.in_ok-class_bytes in let classes = c.in_ok-classes in let accepted = c.in_ok-accepted in let rows
    = c.in_ok-rows in
    let first = counted_values w (ScanRuleFits w) (raw_scan_rule w) scan_rule_raw rules.scan_rules.items _ _
    rules.ensures.count rules.ensures.fits rules.ensures.ok in
    let second = counted_values w (StartsFit w) (raw_starts w) starts_raw conditions.conditions.items _ _
    conditions.ensures.count conditions.ensures.fits conditions.ensures.ok in
    scanner_fit w (map scan_rule_raw rules.scan_rules.items) (map starts_raw conditions.conditions.items)
    count.class_count classes.classes.items accepted.accepted.items (comb_raw rows.rows) first.0 second.0
    count.ensures.ok.0 (subst (AreBytes 256) (sym classes.ensures.items) class_bytes.ensures.ok.0)
    (accepted.ensures.count, accepted.ensures.fits) (subst (λ n. CombFits w n (comb_raw rows.rows)) (c.len.ensures ∙
    accepted.accepted.ok.0) rows.ensures.fits)

pub returns-clause-ok : goal.returns-clause-ok
returns-clause-ok c =
    let w = width_of c.args.version in
    let rules = c.in_ok-scan_rules in let conditions = c.in_ok-conditions in let count = c.in_ok-class_count in let
    class_bytes = c.in_ok-class_bytes in let classes = c.in_ok-classes in let accepted = c.in_ok-accepted in let rows
    = c.in_ok-rows in
    let first = counted_values w (ScanRuleFits w) (raw_scan_rule w) scan_rule_raw rules.scan_rules.items _ _
    rules.ensures.count rules.ensures.fits rules.ensures.ok in
    let second = counted_values w (StartsFit w) (raw_starts w) starts_raw conditions.conditions.items _ _
    conditions.ensures.count conditions.ensures.fits conditions.ensures.ok in
    scanner_together w (map scan_rule_raw rules.scan_rules.items) (map starts_raw conditions.conditions.items)
    count.class_count classes.classes.items accepted.accepted.items (comb_raw rows.rows) rows.left.now first.1
    second.1 count.ensures.ok.1 (class_bytes.ensures.ok.1 ∙ ap (λ x. x ++ class_bytes.left.now) (sym
    classes.ensures.items)) accepted.ensures.ok rows.ensures.ok
