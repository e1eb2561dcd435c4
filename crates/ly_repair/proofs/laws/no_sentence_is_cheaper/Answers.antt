use Rattle.ly_repair.proofs.ReadLemmas.{accepts, mends}
use Rattle.ly_repair.proofs.laws.no_sentence_is_cheaper.Goals as goal

pub returns-clause-whole : goal.returns-clause-whole
returns-clause-whole c = λ m stack rest es few x. mends m 3 es stack rest x.last few x.reads x.accepts

pub returns-clause-least : goal.returns-clause-least
returns-clause-least c = λ m stack rest n least es few x. least es
    (mends m 3 es stack rest x.last few x.reads x.accepts)

pub returns-clause-accepted : goal.returns-clause-accepted
returns-clause-accepted c = λ m stack rest last left es l x. accepts m es stack rest last left l x

pub returns-clause-none : goal.returns-clause-none
returns-clause-none c = λ m stack rest no es few x. no es (mends m 3 es stack rest x.last few x.reads x.accepts)
