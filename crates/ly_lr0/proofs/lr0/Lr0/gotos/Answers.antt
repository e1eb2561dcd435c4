use Rattle.std.proofs.Common.{arith, false}
use Rattle.ly_lr0.proofs.RowLemmas.{row_of_kind, row_there}
use Rattle.ly_lr0.proofs.lr0.Lr0.gotos.Goals as goal

pub index-requires : goal.index-requires
index-requires c = omega (arith, row_there c.self.invariant c.self.view_is c.args.state.0 c.requires)

pub returns : goal.returns
returns c = row_of_kind c.self.invariant c.self.view_is c.args.state.0 c.requires c.index.result.now c.index.ensures
    false c.deref.ensures.value
