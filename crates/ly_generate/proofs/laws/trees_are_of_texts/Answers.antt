use Rattle.ly_generate.proofs.SentenceLemmas.{trees_of_texts}
use Rattle.ly_generate.proofs.laws.trees_are_of_texts.Goals as goal

pub returns : goal.returns
returns c = trees_of_texts
