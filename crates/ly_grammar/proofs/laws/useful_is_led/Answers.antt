use Rattle.ly_grammar.proofs.UsefulLemmas.{useful_led}
use Rattle.ly_grammar.proofs.laws.useful_is_led.Goals as goal

pub returns : goal.returns
returns c = useful_led
