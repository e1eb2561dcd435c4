use Rattle.ly_places.proofs.PlacedReadingLemmas.{of_names, says_one}
use Rattle.ly_places.proofs.laws.a_placed_json_text_says_one_tree.Goals as goal

pub returns-clause-of_names : goal.returns-clause-of_names
returns-clause-of_names c = of_names

pub returns-clause-one : goal.returns-clause-one
returns-clause-one c = says_one
