use Rattle.ly_pack.specs.Private.Placing.{table_of}
use Rattle.ly_pack.proofs.PackLemmas.{first_fit}
use Rattle.ly_pack.proofs.pack_machine.pack_rows.Goals as goal

pub new-requires : goal.new-requires
new-requires g c = first_fit (table_of c.args.dense.now) c.in_ok-comb.field-0 c.in_ok-comb.ensures.placed
    c.in_ok-comb.ensures.entries
