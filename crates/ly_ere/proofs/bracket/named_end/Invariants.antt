use Rattle.ly_ere.proofs.NamedLemmas.{NameGoesOn}
use Rattle.ly_ere.proofs.bracket.named_end.Given as goal

abbrev pub invariant-loop-at : goal.invariant-loop-at
invariant-loop-at l = NameGoesOn l.mark l.text 2 l.at
