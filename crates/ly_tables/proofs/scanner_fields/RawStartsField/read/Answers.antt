use Rattle.ly_tables.proofs.BeginningLemmas.{begun_as, begun_behind, begun_first, stopped}
use Rattle.ly_tables.proofs.ChainLemmas.{starts_part}
use Rattle.ly_tables.specs.Private.Found.{some_number}
use Rattle.ly_tables.specs.Ranges.{width_of}
use Rattle.ly_tables.proofs.scanner_fields.RawStartsField.read.Goals as goal

pub returns-in_err-elsewhere-clause-truncated : goal.returns-in_err-elsewhere-clause-truncated
returns-in_err-elsewhere-clause-truncated c =
    let w = width_of c.args.version in
    let error = c.in_err-elsewhere in let handed = c.from_residual in
    stopped handed.result error.field-0.0 handed.ensures.1 error.ensures.truncated (λ begun. begun_as (starts_part w)
    (begun_first (λ v fit. some_number w) begun))

pub returns-in_err-at_line-clause-truncated : goal.returns-in_err-at_line-clause-truncated
returns-in_err-at_line-clause-truncated c =
    let elsewhere = c.in_ok-elsewhere in let error = c.in_err-at_line in let handed = c.from_residual-in_err-at_line
    in
    stopped handed.result error.field-0.0 handed.ensures.1 error.ensures.truncated (λ begun. begun_as (starts_part
    (width_of c.args.version))
    (begun_behind elsewhere.elsewhere _ elsewhere.ensures.ok begun))
