use Rattle.std.proofs.Common.{refl}
use Rattle.ly_tables.specs.Private.RawValues.{raw_from}
use Rattle.ly_tables.specs.RawSections.{rule_section, state_section, action_section, goto_section}
use Rattle.ly_tables.proofs.SectionOrderLemmas.{all_within, first_number, one_more}
use Rattle.ly_tables.proofs.sections.parser_section_out.Goals as goal

pub returns-then-not-rules_within-clause-some : goal.returns-then-not-rules_within-clause-some
returns-then-not-rules_within-clause-some c =
    let r = raw_from c.args.raw.now in
    first_number c.args.version r rule_section c.requires.before c.if-not-rules_within.ensures.1

pub returns-then-not-defaults_within-clause-some : goal.returns-then-not-defaults_within-clause-some
returns-then-not-defaults_within-clause-some c =
    let r = raw_from c.args.raw.now in
    let b10 = one_more c.args.version r rule_section (c.if-not-rules_within.ensures.0 refl) c.requires.before in
    first_number c.args.version r state_section b10 c.if-not-defaults_within.ensures.1

pub returns-then-not-actions_within-clause-some : goal.returns-then-not-actions_within-clause-some
returns-then-not-actions_within-clause-some c =
    let r = raw_from c.args.raw.now in
    let b10 = one_more c.args.version r rule_section (c.if-not-rules_within.ensures.0 refl) c.requires.before in
    let b11 = one_more c.args.version r state_section (c.if-not-defaults_within.ensures.0 refl) b10 in
    first_number c.args.version r action_section b11 c.if-not-actions_within.ensures.1

pub returns-then-not-gotos_within-clause-some : goal.returns-then-not-gotos_within-clause-some
returns-then-not-gotos_within-clause-some c =
    let r = raw_from c.args.raw.now in
    let b10 = one_more c.args.version r rule_section (c.if-not-rules_within.ensures.0 refl) c.requires.before in
    let b11 = one_more c.args.version r state_section (c.if-not-defaults_within.ensures.0 refl) b10 in
    let b12 = one_more c.args.version r action_section (c.if-not-actions_within.ensures.0 refl) b11 in
    first_number c.args.version r goto_section b12 c.if-not-gotos_within.ensures.1

pub returns-clause-none : goal.returns-clause-none
returns-clause-none c =
    let r = raw_from c.args.raw.now in
    let b10 = one_more c.args.version r rule_section (c.if-not-rules_within.ensures.0 refl) c.requires.before in
    let b11 = one_more c.args.version r state_section (c.if-not-defaults_within.ensures.0 refl) b10 in
    let b12 = one_more c.args.version r action_section (c.if-not-actions_within.ensures.0 refl) b11 in
    let b13 = one_more c.args.version r goto_section (c.if-not-gotos_within.ensures.0 refl) b12 in
    λ none. all_within c.args.version r b13
