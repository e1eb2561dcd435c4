use Rattle.ly_tree.proofs.JsonReadingLemmas.{of_names, says_one}
use Rattle.ly_tree.proofs.laws.a_json_text_says_one_tree.Goals as goal

pub returns-clause-of_names : goal.returns-clause-of_names
returns-clause-of_names c = of_names

pub returns-clause-one : goal.returns-clause-one
returns-clause-one c = says_one
