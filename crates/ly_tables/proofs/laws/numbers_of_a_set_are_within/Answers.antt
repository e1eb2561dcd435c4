use Rattle.ly_tables.proofs.NumberLemmas.{numbers_fit, sections_within}
use Rattle.ly_tables.proofs.laws.numbers_of_a_set_are_within.Goals as goal

pub returns : goal.returns
returns c = λ v s r. (numbers_fit v s r, sections_within v s r)
