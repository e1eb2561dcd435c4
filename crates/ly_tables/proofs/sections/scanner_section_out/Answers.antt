use Rattle.std.proofs.Common.{refl}
use Rattle.ly_tables.specs.Private.RawValues.{raw_from}
use Rattle.ly_tables.specs.RawSections.{symbol_section, literal_section, scan_rule_section, condition_section}
use Rattle.ly_tables.specs.RawSections.{class_section, scan_state_section, scan_row_section}
use Rattle.ly_tables.proofs.SectionOrderLemmas.{first_number, none_before, one_more}
use Rattle.ly_tables.proofs.sections.scanner_section_out.Goals as goal

pub returns-then-not-symbols_within-clause-some : goal.returns-then-not-symbols_within-clause-some
returns-then-not-symbols_within-clause-some c =
    let r = raw_from c.args.raw.now in
    first_number c.args.version r symbol_section (none_before c.args.version r) c.if-not-symbols_within.ensures.1

pub returns-then-not-literals_within-clause-some : goal.returns-then-not-literals_within-clause-some
returns-then-not-literals_within-clause-some c =
    let r = raw_from c.args.raw.now in
    let b3 = one_more c.args.version r symbol_section (c.if-not-symbols_within.ensures.0 refl) (none_before
    c.args.version r) in
    first_number c.args.version r literal_section b3 c.if-not-literals_within.ensures.1

pub returns-then-not-scan_rules_within-clause-some : goal.returns-then-not-scan_rules_within-clause-some
returns-then-not-scan_rules_within-clause-some c =
    let r = raw_from c.args.raw.now in
    let b3 = one_more c.args.version r symbol_section (c.if-not-symbols_within.ensures.0 refl) (none_before
    c.args.version r) in
    let b4 = one_more c.args.version r literal_section (c.if-not-literals_within.ensures.0 refl) b3 in
    first_number c.args.version r scan_rule_section b4 c.if-not-scan_rules_within.ensures.1

pub returns-then-not-conditions_within-clause-some : goal.returns-then-not-conditions_within-clause-some
returns-then-not-conditions_within-clause-some c =
    let r = raw_from c.args.raw.now in
    let b3 = one_more c.args.version r symbol_section (c.if-not-symbols_within.ensures.0 refl) (none_before
    c.args.version r) in
    let b4 = one_more c.args.version r literal_section (c.if-not-literals_within.ensures.0 refl) b3 in
    let b5 = one_more c.args.version r scan_rule_section (c.if-not-scan_rules_within.ensures.0 refl) b4 in
    first_number c.args.version r condition_section b5 c.if-not-conditions_within.ensures.1

pub returns-then-not-classes_within-clause-some : goal.returns-then-not-classes_within-clause-some
returns-then-not-classes_within-clause-some c =
    let r = raw_from c.args.raw.now in
    let b3 = one_more c.args.version r symbol_section (c.if-not-symbols_within.ensures.0 refl) (none_before
    c.args.version r) in
    let b4 = one_more c.args.version r literal_section (c.if-not-literals_within.ensures.0 refl) b3 in
    let b5 = one_more c.args.version r scan_rule_section (c.if-not-scan_rules_within.ensures.0 refl) b4 in
    let b6 = one_more c.args.version r condition_section (c.if-not-conditions_within.ensures.0 refl) b5 in
    first_number c.args.version r class_section b6 c.if-not-classes_within.ensures.1

pub returns-then-not-accepted_within-clause-some : goal.returns-then-not-accepted_within-clause-some
returns-then-not-accepted_within-clause-some c =
    let r = raw_from c.args.raw.now in
    let b3 = one_more c.args.version r symbol_section (c.if-not-symbols_within.ensures.0 refl) (none_before
    c.args.version r) in
    let b4 = one_more c.args.version r literal_section (c.if-not-literals_within.ensures.0 refl) b3 in
    let b5 = one_more c.args.version r scan_rule_section (c.if-not-scan_rules_within.ensures.0 refl) b4 in
    let b6 = one_more c.args.version r condition_section (c.if-not-conditions_within.ensures.0 refl) b5 in
    let b7 = one_more c.args.version r class_section (c.if-not-classes_within.ensures.0 refl) b6 in
    first_number c.args.version r scan_state_section b7 c.if-not-accepted_within.ensures.1

pub returns-then-not-scan_rows_within-clause-some : goal.returns-then-not-scan_rows_within-clause-some
returns-then-not-scan_rows_within-clause-some c =
    let r = raw_from c.args.raw.now in
    let b3 = one_more c.args.version r symbol_section (c.if-not-symbols_within.ensures.0 refl) (none_before
    c.args.version r) in
    let b4 = one_more c.args.version r literal_section (c.if-not-literals_within.ensures.0 refl) b3 in
    let b5 = one_more c.args.version r scan_rule_section (c.if-not-scan_rules_within.ensures.0 refl) b4 in
    let b6 = one_more c.args.version r condition_section (c.if-not-conditions_within.ensures.0 refl) b5 in
    let b7 = one_more c.args.version r class_section (c.if-not-classes_within.ensures.0 refl) b6 in
    let b8 = one_more c.args.version r scan_state_section (c.if-not-accepted_within.ensures.0 refl) b7 in
    first_number c.args.version r scan_row_section b8 c.if-not-scan_rows_within.ensures.1

pub returns-clause-none : goal.returns-clause-none
returns-clause-none c =
    let r = raw_from c.args.raw.now in
    let b3 = one_more c.args.version r symbol_section (c.if-not-symbols_within.ensures.0 refl) (none_before
    c.args.version r) in
    let b4 = one_more c.args.version r literal_section (c.if-not-literals_within.ensures.0 refl) b3 in
    let b5 = one_more c.args.version r scan_rule_section (c.if-not-scan_rules_within.ensures.0 refl) b4 in
    let b6 = one_more c.args.version r condition_section (c.if-not-conditions_within.ensures.0 refl) b5 in
    let b7 = one_more c.args.version r class_section (c.if-not-classes_within.ensures.0 refl) b6 in
    let b8 = one_more c.args.version r scan_state_section (c.if-not-accepted_within.ensures.0 refl) b7 in
    let b9 = one_more c.args.version r scan_row_section (c.if-not-scan_rows_within.ensures.0 refl) b8 in
    λ none. b9
