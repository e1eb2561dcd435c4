use Rattle.ly_tables.proofs.BeginningLemmas.{begun_as, begun_first, some_bytes, stopped, text_part}
use Rattle.ly_tables.proofs.plain_fields.TextField.read.Goals as goal

pub returns-in_err-length-clause-truncated : goal.returns-in_err-length-clause-truncated
returns-in_err-length-clause-truncated c =
    stopped c.from_residual.result c.in_err-length.field-0.0 c.from_residual.ensures.1 c.in_err-length.ensures.truncated
    (λ begun. begun_as text_part (begun_first (λ n fit. some_bytes n) begun))
