use Rattle.ly_base.proofs.LookedUpLemmas.{found}
use Rattle.ly_lr0.proofs.ItemLemmas.{item_same, item_self, same_item}
use Rattle.ly_lr0.proofs.kernels.Kernels.find.Goals as goal

pub returns : goal.returns
returns c = rw (← c.self.view_is)
    (found same_item item_same item_self (λ v. v.items) c.args.kernel.now c.self.inside.kernels.keys
    c.get_index_of.result c.get_index_of.ensures.index c.get_index_of.ensures.found)
