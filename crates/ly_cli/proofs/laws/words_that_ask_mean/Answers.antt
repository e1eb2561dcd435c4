use Rattle.ly_cli.proofs.RequestLemmas.{asked}
use Rattle.ly_cli.proofs.laws.words_that_ask_mean.Goals as goal

pub returns : goal.returns
returns c = λ words request ask. asked words request ask
