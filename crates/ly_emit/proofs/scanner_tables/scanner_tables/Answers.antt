use Rattle.ly_pack.proofs.PackLemmas.{first_fit}
use Rattle.ly_emit.proofs.scanner_tables.scanner_tables.Goals as goal

pub returns-clause-placed : goal.returns-clause-placed
returns-clause-placed c = first_fit _ c.in_ok-comb.field-0 c.in_ok-comb.ensures.placed c.in_ok-comb.ensures.entries
