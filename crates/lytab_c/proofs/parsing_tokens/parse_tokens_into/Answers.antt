use Rattle.std.proofs.Common.{refl}
use Rattle.lytab_c.proofs.TokenLemmas.{file_said, tables_refused}
use Rattle.lytab_c.proofs.parsing_tokens.parse_tokens_into.Goals as goal

pub returns-in-Ok : goal.returns-in-Ok
returns-in-Ok c =
    file_said c.args.text.now c.args.tokens.now _ _ _ c.args.tables.now _ c.answer_tokens.result
    (_, c.in-Ok.ensures.spelled, c.in-Ok.ensures.steady) c.answer_tokens.ensures

pub returns-in-Err : goal.returns-in-Err
returns-in-Err c =
    tables_refused c.args.text.now c.args.tokens.now _ _ _ c.args.tables.now c.tell_fault.result c.in-Err.fault
    c.in-Err.ensures.refused c.tell_fault.ensures refl
