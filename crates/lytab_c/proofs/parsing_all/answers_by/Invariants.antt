use Rattle.lytab_c.proofs.AnswerLemmas.{AreAnsweredTo}
use Rattle.lytab_c.proofs.parsing_all.answers_by.Given as goal

abbrev pub invariant-loop-end : goal.invariant-loop-end
invariant-loop-end l = AreAnsweredTo l.fn.set l.texts l.ends l.start l.end-index l.answers
