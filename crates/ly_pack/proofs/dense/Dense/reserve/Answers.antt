use Rattle.std.proofs.Common.{◌∙◌, subst, sym}
use Rattle.ly_pack.specs.Rows.{IsDense}
use Rattle.ly_pack.proofs.DenseLemmas.{dense_still}
use Rattle.ly_pack.proofs.dense.Dense.reserve.Goals as goal

pub invariant_of-self : goal.invariant_of-self
invariant_of-self g c = subst IsDense (sym (dense_still c.self.inside.width c.self.inside.lists.items c.args.row.0
    c.index_mut.result.now c.args.self.now c.self.view_is c.self.invariant c.requires c.index_mut.ensures.value
    c.reserve_own.new.row c.reserve_own.ensures ∙ sym c.self.view_is)) c.self.invariant

pub returns-in_err-reserve_own : goal.returns-in_err-reserve_own
returns-in_err-reserve_own g c = dense_still c.self.inside.width c.self.inside.lists.items c.args.row.0
    c.index_mut.result.now c.args.self.now c.self.view_is c.self.invariant c.requires c.index_mut.ensures.value
    c.reserve_own.new.row c.reserve_own.ensures

pub invariant_of-self-2 : goal.invariant_of-self-2
invariant_of-self-2 g c = subst IsDense (sym (dense_still c.self.inside.width c.self.inside.lists.items c.args.row.0
    c.index_mut.result.now c.args.self.now c.self.view_is c.self.invariant c.requires c.index_mut.ensures.value
    c.reserve_own.new.row c.reserve_own.ensures ∙ sym c.self.view_is)) c.self.invariant

pub returns : goal.returns
returns g c = dense_still c.self.inside.width c.self.inside.lists.items c.args.row.0 c.index_mut.result.now
    c.args.self.now c.self.view_is c.self.invariant c.requires c.index_mut.ensures.value c.reserve_own.new.row
    c.reserve_own.ensures
