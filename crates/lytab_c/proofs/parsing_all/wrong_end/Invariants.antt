use Rattle.lytab_c.proofs.AnswerLemmas.{IsWrongTo}
use Rattle.lytab_c.proofs.parsing_all.wrong_end.Given as goal

abbrev pub invariant-loop-index : goal.invariant-loop-index
invariant-loop-index l = IsWrongTo l.start l.fn.count l.index l.ends
