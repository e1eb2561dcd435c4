use Rattle.ly_grammar.proofs.OneLemmas.{useful_rules_are_one}
use Rattle.ly_grammar.proofs.laws.useful_rules_are_one.Goals as goal

pub returns : goal.returns
returns c = useful_rules_are_one
