use Rattle.std.proofs.Common.{arith}
use Rattle.ly_tables.proofs.BeginningLemmas.{are_bytes, begun_few, byte_part}
use Rattle.ly_tables.proofs.front.byte.Goals as goal

pub returns-in-empty-clause-truncated : goal.returns-in-empty-clause-truncated
returns-in-empty-clause-truncated c = begun_few 1 c.args.left.now (omega arith) (are_bytes _ c.type_inv.left) byte_part
