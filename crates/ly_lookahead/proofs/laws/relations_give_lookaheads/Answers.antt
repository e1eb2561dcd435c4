use Rattle.ly_lookahead.proofs.FromRelations.{lookahead_from}
use Rattle.ly_lookahead.proofs.ToRelations.{lookahead_to}
use Rattle.ly_lookahead.proofs.laws.relations_give_lookaheads.Goals as goal

pub returns : goal.returns
returns c = λ G goto augmented reduced automaton g s p t reaches le. (
  lookahead_from G goto augmented reduced automaton g s p t reaches,
  lookahead_to G goto augmented automaton g s p t reaches le,
)
