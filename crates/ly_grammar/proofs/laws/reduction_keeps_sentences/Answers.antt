use Rattle.ly_grammar.proofs.ReduceLemmas.{keeps_sentences, keeps_trees}
use Rattle.ly_grammar.proofs.laws.reduction_keeps_sentences.Goals as goal

pub returns-clause-trees : goal.returns-clause-trees
returns-clause-trees c = keeps_trees

pub returns-clause-sentences : goal.returns-clause-sentences
returns-clause-sentences c = keeps_sentences
