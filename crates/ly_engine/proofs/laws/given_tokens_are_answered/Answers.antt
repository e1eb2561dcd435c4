use Rattle.ly_engine.proofs.GivenTokenLemmas.{sentences_answered, tokens_answered, trees_of_tokens}
use Rattle.ly_engine.proofs.laws.given_tokens_are_answered.Goals as goal

pub returns-clause-machine : goal.returns-clause-machine
returns-clause-machine c = tokens_answered

pub returns-clause-sentences : goal.returns-clause-sentences
returns-clause-sentences c = sentences_answered

pub returns-clause-trees : goal.returns-clause-trees
returns-clause-trees c = trees_of_tokens
