use Rattle.std.proofs.Common.{arith}
use Rattle.lytab_c.proofs.AnswerLemmas.{next_right}
use Rattle.lytab_c.proofs.parsing_all.wrong_end.Goals as goal

pub loop-index-preserved : goal.loop-index-preserved
loop-index-preserved c =
    next_right c.loop-index.start c.args.count c.loop-index.index 0 c.args.ends.now
    (omega (arith, c.loop-index-test.true)) c.if-end-start.false c.if-count-end.false c.loop-index.invariant
