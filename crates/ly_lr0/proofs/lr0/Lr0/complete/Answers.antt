use Rattle.std.proofs.Common.{◌∙◌, arith}
use Rattle.ly_lr0.proofs.RowLemmas.{row_complete, row_there}
use Rattle.ly_lr0.proofs.lr0.Lr0.complete.Goals as goal

pub index-requires : goal.index-requires
index-requires c = omega (arith, row_there c.self.invariant c.self.view_is c.args.state.0 c.requires)

pub returns : goal.returns
returns c = c.deref.ensures.value
    ∙ row_complete c.self.invariant c.self.view_is c.args.state.0 c.requires c.index.result.now c.index.ensures
