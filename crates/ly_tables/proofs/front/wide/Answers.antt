use Rattle.ly_tables.proofs.BeginningLemmas.{begun_as, wide_part, wide_read, stopped}
use Rattle.ly_tables.proofs.front.wide.Goals as goal

pub returns-in_err-text-clause-truncated : goal.returns-in_err-text-clause-truncated
returns-in_err-text-clause-truncated c =
    stopped c.from_residual.result c.in_err-text.field-0.0 c.from_residual.ensures.1 c.in_err-text.ensures.truncated
    (λ begun. begun_as wide_part begun)

pub returns-clause-ok : goal.returns-clause-ok
returns-clause-ok c =
    wide_read c.in_ok-text.text.now c.in_ok-text.behind.now c.read_u32.result c.in_ok-text.ensures.ok c.read_u32.ensures
