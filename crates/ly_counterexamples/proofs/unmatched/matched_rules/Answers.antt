use Rattle.std.proofs.Common.{arith}
use Rattle.ly_counterexamples.specs.Private.Matched.{LeadsAtOnce}
use Rattle.ly_counterexamples.proofs.MarkLemmas.{step_added}
use Rattle.ly_counterexamples.proofs.MatchedLemmas.{all_matched}
use Rattle.ly_counterexamples.proofs.unmatched.matched_rules.Goals as goal

pub loop-state-preserved : goal.loop-state-preserved
loop-state-preserved c = step_added (LeadsAtOnce c.args.dfa.now) c.loop-state.state c.in_ok-matched.matched
    c.loop-state.matched c.mark_next.new.matched c.loop-state.invariant c.mark_next.ensures

pub returns-clause-matched : goal.returns-clause-matched
returns-clause-matched c =
    let count = c.in_ok-states.ensures.count in
    all_matched c.args.dfa.now c.count_states.ensures.whole c.requires c.args.rules c.loop-state.state
    (omega (arith, count))
    c.in_ok-matched.matched c.loop-state.matched c.in_ok-matched.ensures c.loop-state.invariant
