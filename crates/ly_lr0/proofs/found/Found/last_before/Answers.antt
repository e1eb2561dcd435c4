use Rattle.ly_join.specs.Grammar.{symbol_of}
use Rattle.ly_lr0.proofs.SharedLemmas.{last_row_before, last_ordered}
use Rattle.ly_lr0.proofs.found.Found.last_before.Goals as goal

pub place_of-requires : goal.place_of-requires
place_of-requires c = last_ordered c.args.self.now c.requires c.deref-transitions.result.now
    c.deref-transitions.ensures.value

pub returns : goal.returns
returns c = last_row_before c.args.self.now c.requires c.deref-transitions.result.now c.deref-transitions.ensures.value
    (symbol_of c.args.symbol) c.place_of.result c.place_of.ensures
