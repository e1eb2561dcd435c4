use Rattle.ly_lr0.proofs.OneLemmas.{automaton_is_one}
use Rattle.ly_lr0.proofs.laws.automaton_is_one.Goals as goal

pub returns : goal.returns
returns c = automaton_is_one
