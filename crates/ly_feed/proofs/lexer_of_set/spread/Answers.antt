use Rattle.std.proofs.Common.{arith, get_or, length, None}
use Rattle.ly_scan.proofs.StateRowLemmas.{has_row}
use Rattle.ly_feed.proofs.LexerOfLemmas.{leads_within}
use Rattle.ly_feed.proofs.lexer_of_set.spread.Goals as goal

pub set-requires-clause-next : goal.set-requires-clause-next
set-requires-clause-next c =
    let next = get_or c.targets_of-targets.result c.from.result None in
    has_row next c.args.states (length c.loop-byte.rows) c.loop-byte.invariant.count
    (leads_within c.args.comb.now c.loop-state.state c.from.result next c.args.states c.requires.targets
    (c.targets_of-targets.ensures c.from.result (omega (arith, c.from.ensures, c.type_inv.classes c.loop-byte.byte))))
