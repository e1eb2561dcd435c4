use Rattle.std.proofs.Common.{arith}
use Rattle.ly_counterexamples.proofs.UnderwayLemmas.{has_length}
use Rattle.ly_counterexamples.proofs.search.Search.length.Goals as goal

pub index-requires : goal.index-requires
index-requires c = omega (
  arith,
  has_length c.args.sought.now c.args.self.now.found c.args.self.now.links.items c.requires.search c.args.place
      c.at-state.result c.at-state.ensures,
  c.args.sought.now.ground.now.lengths.ok.0,
)
