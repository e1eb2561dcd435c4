use Rattle.ly_repair.proofs.OrderLemmas.{in_order}
use Rattle.ly_repair.proofs.laws.order_loses_nothing.Goals as goal

pub returns : goal.returns
returns c = in_order
