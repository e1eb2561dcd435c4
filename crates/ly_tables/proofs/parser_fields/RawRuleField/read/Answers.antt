use Rattle.ly_tables.proofs.BeginningLemmas.{begun_as, begun_behind, begun_first, some_bytes, stopped}
use Rattle.ly_tables.proofs.ChainLemmas.{rule_part, some_byte_then, some_name_then, some_places}
use Rattle.ly_tables.specs.Ranges.{width_of}
use Rattle.ly_tables.proofs.parser_fields.RawRuleField.read.Goals as goal

pub returns-in_err-left_side-clause-truncated : goal.returns-in_err-left_side-clause-truncated
returns-in_err-left_side-clause-truncated c =
    let error = c.in_err-left_side in let handed = c.from_residual in
    stopped handed.result error.field-0.0 handed.ensures.1 error.ensures.truncated (λ begun. begun_as (rule_part
    (width_of c.args.version))
    (begun_first (λ v fit. some_byte_then (some_byte_then some_name_then)) begun))

pub returns-in_err-body_length-clause-truncated : goal.returns-in_err-body_length-clause-truncated
returns-in_err-body_length-clause-truncated c =
    let left_side = c.in_ok-left_side in let error = c.in_err-body_length in let handed =
    c.from_residual-in_err-body_length in
    stopped handed.result error.field-0.0 handed.ensures.1 error.ensures.truncated (λ begun. begun_as (rule_part
    (width_of c.args.version))
    (begun_behind left_side.left_side _ left_side.ensures.ok (begun_first (λ v fit. some_byte_then some_name_then)
    begun)))

pub returns-in_err-kind-clause-truncated : goal.returns-in_err-kind-clause-truncated
returns-in_err-kind-clause-truncated c =
    let left_side = c.in_ok-left_side in let body_length = c.in_ok-body_length in let error = c.in_err-kind in let
    handed = c.from_residual-in_err-kind in
    stopped handed.result error.field-0.0 handed.ensures.1 error.ensures.truncated (λ begun. begun_as (rule_part
    (width_of c.args.version))
    (begun_behind left_side.left_side _ left_side.ensures.ok (begun_behind body_length.body_length _
    body_length.ensures.ok (begun_first (λ v fit. some_name_then) begun))))

pub returns-in_err-name-clause-truncated : goal.returns-in_err-name-clause-truncated
returns-in_err-name-clause-truncated c =
    let left_side = c.in_ok-left_side in let body_length = c.in_ok-body_length in let kind = c.in_ok-kind in let error
    = c.in_err-name in let handed = c.from_residual-in_err-name in
    stopped handed.result error.field-0.0 handed.ensures.1 error.ensures.truncated (λ begun. begun_as (rule_part
    (width_of c.args.version))
    (begun_behind left_side.left_side _ left_side.ensures.ok (begun_behind body_length.body_length _
    body_length.ensures.ok (begun_behind kind.kind _ kind.ensures.ok (begun_first (λ v fit. some_places) begun)))))

pub returns-in_err-count-clause-truncated : goal.returns-in_err-count-clause-truncated
returns-in_err-count-clause-truncated c =
    let left_side = c.in_ok-left_side in let body_length = c.in_ok-body_length in let kind = c.in_ok-kind in let name
    = c.in_ok-name in let error = c.in_err-count in let handed = c.from_residual-in_err-count in
    stopped handed.result error.field-0.0 handed.ensures.1 error.ensures.truncated (λ begun. begun_as (rule_part
    (width_of c.args.version))
    (begun_behind left_side.left_side _ left_side.ensures.ok (begun_behind body_length.body_length _
    body_length.ensures.ok (begun_behind kind.kind _ kind.ensures.ok (begun_behind name.name.items _ name.ensures.ok
    (begun_first (λ v fit. some_bytes v) begun))))))

pub returns-in_err-places-clause-truncated : goal.returns-in_err-places-clause-truncated
returns-in_err-places-clause-truncated c =
    let left_side = c.in_ok-left_side in let body_length = c.in_ok-body_length in let kind = c.in_ok-kind in let name
    = c.in_ok-name in let count = c.in_ok-count in let error = c.in_err-places in let handed =
    c.from_residual-in_err-places in
    stopped handed.result error.field-0.0 handed.ensures.1 error.ensures.truncated (λ begun. begun_as (rule_part
    (width_of c.args.version))
    (begun_behind left_side.left_side _ left_side.ensures.ok (begun_behind body_length.body_length _
    body_length.ensures.ok (begun_behind kind.kind _ kind.ensures.ok (begun_behind name.name.items _ name.ensures.ok
    (begun_behind count.count _ count.ensures.ok begun))))))
