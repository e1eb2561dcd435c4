use Rattle.ly_emit.proofs.ShapeLemmas.{shapes_are_within}
use Rattle.ly_emit.proofs.laws.shapes_are_within.Goals as goal

pub returns : goal.returns
returns c = shapes_are_within
