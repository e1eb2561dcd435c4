use Rattle.ly_places.proofs.PlacedTreeLemmas.{placed_trees_are_nested, placed_trees_are_of_verdicts}
use Rattle.ly_places.proofs.laws.placed_trees_are_of_texts.Goals as goal

pub returns-clause-nested : goal.returns-clause-nested
returns-clause-nested c = placed_trees_are_nested

pub returns-clause-forgotten : goal.returns-clause-forgotten
returns-clause-forgotten c = placed_trees_are_of_verdicts
