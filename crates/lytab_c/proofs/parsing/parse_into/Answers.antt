use Rattle.std.proofs.Common.{arith, subst}
use Rattle.lytab_c.proofs.FitLemmas.{syntax_error_fits}
use Rattle.lytab_c.specs.Private.Putting.{IsParsedBy}
use Rattle.lytab_c.proofs.parsing.parse_into.Goals as goal

pub put_syntax_error-requires : goal.put_syntax_error-requires
put_syntax_error-requires c =
    let text = c.args.text.now in
    let told = subst (IsParsedBy c.args.tables.now text) c.in-Ok-Refused.field-0-is c.in-Ok-Refused.ensures.parsed in
    syntax_error_fits told.0 text c.in-Ok-Refused.syntax_error (omega arith) told.2
