use Rattle.std.proofs.Common.{◌<◌, ap, arith, length, map, subst, sym}
use Rattle.ly_lr0.specs.Automaton.{state_at}
use Rattle.ly_lr0.proofs.StateLemmas.{state_there}
use Rattle.ly_resolve.specs.Precedence.{judge_of}
use Rattle.ly_resolve.specs.Resolved.{IsRow}
use Rattle.ly_resolve.specs.Values.{terminal_action_from}
use Rattle.ly_resolve.proofs.RawLemmas.{prefix_at}
use Rattle.ly_emit.proofs.tables.action_rows.Goals as goal

pub fill_actions-requires-clause-row : goal.fill_actions-requires-clause-row
fill_actions-requires-clause-row c =
    let M = c.args.resolved.now.automaton in
    let k = c.loop-state.state in
    let count = c.states-state-end.ensures.count in
    let same = ap (λ m. length m.states) c.lr0-lr0.ensures.these in
    let test = c.loop-state-test.true in
    let lt : k < length M.states = omega (arith, test, count, same) in
    let there = state_there M k lt in
    subst (λ g. IsRow M.grammar (judge_of c.args.resolved.now.spec) g (map terminal_action_from c.row.result.now))
    (sym (prefix_at M k (state_at M k) there))
    (c.spec.ensures.resolved.rows k (state_at M k) (map terminal_action_from c.row.result.now) there c.row.ensures)
