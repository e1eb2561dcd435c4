use Rattle.std.proofs.Common.{length}
use Rattle.ly_scan.proofs.StateRowLemmas.{has_row}
use Rattle.ly_tokens.proofs.file_lexer.spread.Goals as goal

pub set-requires-clause-next : goal.set-requires-clause-next
set-requires-clause-next c = has_row c.step.result (length c.args.dfa.now.rules) (length c.loop-byte.rows)
    c.loop-byte.invariant.count c.step.ensures.within
