use Rattle.ly_tables.proofs.BeginningLemmas.{begun_as, short_part, short_read, stopped}
use Rattle.ly_tables.proofs.front.short.Goals as goal

pub returns-in_err-text-clause-truncated : goal.returns-in_err-text-clause-truncated
returns-in_err-text-clause-truncated c =
    stopped c.from_residual.result c.in_err-text.field-0.0 c.from_residual.ensures.1 c.in_err-text.ensures.truncated
    (λ begun. begun_as short_part begun)

pub returns-clause-ok : goal.returns-clause-ok
returns-clause-ok c =
    short_read c.in_ok-text.text.now c.in_ok-text.behind.now c.read_u16.result c.in_ok-text.ensures.ok
    c.read_u16.ensures
