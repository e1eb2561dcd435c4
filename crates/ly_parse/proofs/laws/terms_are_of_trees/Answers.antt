use Rattle.ly_parse.proofs.TreeFeeding.{accepted_terms_are_built, derived_in_one_way, fed_in_one_way}
use Rattle.ly_parse.proofs.TreeFeeding.{terms_are_of_trees as all_terms_are_of_trees}
use Rattle.ly_parse.proofs.laws.terms_are_of_trees.Goals as goal

pub returns-clause-same : goal.returns-clause-same
returns-clause-same c = all_terms_are_of_trees

pub returns-clause-one : goal.returns-clause-one
returns-clause-one c = fed_in_one_way

pub returns-clause-derived : goal.returns-clause-derived
returns-clause-derived c = derived_in_one_way

pub returns-clause-built : goal.returns-clause-built
returns-clause-built c = accepted_terms_are_built
