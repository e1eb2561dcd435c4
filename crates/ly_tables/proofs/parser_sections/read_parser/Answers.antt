use Rattle.std.proofs.Common.{◌∙◌, length, map, subst}
use Rattle.ly_tables.proofs.BeginningLemmas.{begun_as, begun_behind, begun_first, stopped}
use Rattle.ly_tables.proofs.SectionLemmas.{counted_part, counted_values, parser_fit, parser_part, parser_together}
use Rattle.ly_tables.proofs.SectionLemmas.{some_comb, some_combs, some_states}
use Rattle.ly_tables.specs.Private.Parts.{IsBeginning, IsCombText}
use Rattle.ly_tables.specs.Private.RawValues.{comb_raw, rule_raw}
use Rattle.ly_tables.specs.RawSet.{CombFits, Fits, RuleFits, raw_rule}
use Rattle.ly_tables.specs.Spelling.{number}
use Rattle.ly_tables.specs.Ranges.{width_of}
use Rattle.ly_tables.proofs.parser_sections.read_parser.Goals as goal

pub returns-in_err-rules-clause-truncated : goal.returns-in_err-rules-clause-truncated
returns-in_err-rules-clause-truncated c =
    let w = width_of c.args.version in
    let error = c.in_err-rules in let handed = c.from_residual in
    stopped handed.result error.field-0.0 handed.ensures.1 error.ensures.truncated (λ begun. begun_as (parser_part w)
    (begun_first (λ v fit. some_states w) (begun_as (counted_part w (RuleFits w) (raw_rule w)) begun)))

pub returns-in_err-defaults-clause-truncated : goal.returns-in_err-defaults-clause-truncated
returns-in_err-defaults-clause-truncated c =
    let w = width_of c.args.version in
    let rules = c.in_ok-rules in let error = c.in_err-defaults in let handed = c.from_residual-in_err-defaults in
    stopped handed.result error.field-0.0 handed.ensures.1 error.ensures.truncated (λ begun. begun_as (parser_part w)
    (begun_behind (map rule_raw rules.rules.items) _ (counted_values w (RuleFits w) (raw_rule w) rule_raw
    rules.rules.items _ _ rules.ensures.count rules.ensures.fits rules.ensures.ok) (begun_first (λ v fit. some_combs w
    (length v)) (begun_as (counted_part w (Fits w) (number w)) begun))))

pub returns-in_err-actions-clause-truncated : goal.returns-in_err-actions-clause-truncated
returns-in_err-actions-clause-truncated c =
    let w = width_of c.args.version in
    let rules = c.in_ok-rules in let defaults = c.in_ok-defaults in let error = c.in_err-actions in let handed =
    c.from_residual-in_err-actions in
    stopped handed.result error.field-0.0 handed.ensures.1 error.ensures.truncated (λ begun. begun_as (parser_part w)
    (begun_behind (map rule_raw rules.rules.items) _ (counted_values w (RuleFits w) (raw_rule w) rule_raw
    rules.rules.items _ _ rules.ensures.count rules.ensures.fits rules.ensures.ok) (begun_behind
    defaults.defaults.items _ ((defaults.ensures.count, defaults.ensures.fits), defaults.ensures.ok) (begun_first (λ v
    fit. some_comb w (length defaults.defaults.items)) (subst (λ n. IsBeginning (IsCombText w n) defaults.left.now)
    (c.len.ensures ∙ defaults.defaults.ok.0) begun)))))

pub returns-in_err-gotos-clause-truncated : goal.returns-in_err-gotos-clause-truncated
returns-in_err-gotos-clause-truncated c =
    let w = width_of c.args.version in
    let rules = c.in_ok-rules in let defaults = c.in_ok-defaults in let actions = c.in_ok-actions in let error =
    c.in_err-gotos in let handed = c.from_residual-in_err-gotos in
    stopped handed.result error.field-0.0 handed.ensures.1 error.ensures.truncated (λ begun. begun_as (parser_part w)
    (begun_behind (map rule_raw rules.rules.items) _ (counted_values w (RuleFits w) (raw_rule w) rule_raw
    rules.rules.items _ _ rules.ensures.count rules.ensures.fits rules.ensures.ok) (begun_behind
    defaults.defaults.items _ ((defaults.ensures.count, defaults.ensures.fits), defaults.ensures.ok) (begun_behind
    (comb_raw actions.actions) _ (
      subst (λ n. CombFits w n (comb_raw actions.actions)) (c.len.ensures ∙
          defaults.defaults.ok.0) actions.ensures.fits,
      actions.ensures.ok,
    ) (subst (λ n. IsBeginning (IsCombText w n)
    actions.left.now) (c.len-2.ensures ∙ defaults.defaults.ok.0) begun)))))

pub returns-clause-fits : goal.returns-clause-fits
returns-clause-fits c =
    let w = width_of c.args.version in
    let rules = c.in_ok-rules in let defaults = c.in_ok-defaults in let actions = c.in_ok-actions in let gotos =
    c.in_ok-gotos in
    let first = counted_values w (RuleFits w) (raw_rule w) rule_raw rules.rules.items _ _ rules.ensures.count
    rules.ensures.fits rules.ensures.ok in
    parser_fit w (map rule_raw rules.rules.items) defaults.defaults.items (comb_raw actions.actions) (comb_raw
    gotos.gotos) first.0 (defaults.ensures.count, defaults.ensures.fits) (subst (λ n. CombFits w n (comb_raw
    actions.actions)) (c.len.ensures ∙ defaults.defaults.ok.0) actions.ensures.fits) (subst (λ n. CombFits w n
    (comb_raw gotos.gotos)) (c.len-2.ensures ∙ defaults.defaults.ok.0) gotos.ensures.fits)

pub returns-clause-ok : goal.returns-clause-ok
returns-clause-ok c =
    let w = width_of c.args.version in
    let rules = c.in_ok-rules in let defaults = c.in_ok-defaults in let actions = c.in_ok-actions in let gotos =
    c.in_ok-gotos in
    let first = counted_values w (RuleFits w) (raw_rule w) rule_raw rules.rules.items _ _ rules.ensures.count
    rules.ensures.fits rules.ensures.ok in
    parser_together w (map rule_raw rules.rules.items) defaults.defaults.items (comb_raw actions.actions) (comb_raw
    gotos.gotos) gotos.left.now first.1 defaults.ensures.ok actions.ensures.ok gotos.ensures.ok
