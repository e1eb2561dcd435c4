use Rattle.std.proofs.Common.{arith}
use Rattle.ly_base.proofs.NameLemmas.{name_begins}
use Rattle.ly_base.proofs.names.leading_name.Goals as goal

pub returns : goal.returns
returns c = name_begins c.args.language c.args.text.now c.split_at.result.0.now c.split_at.result.1.now
    c.name_length-length.result c.name_length-length.ensures.value (omega arith) c.split_at.ensures.front
    c.split_at.ensures.back
