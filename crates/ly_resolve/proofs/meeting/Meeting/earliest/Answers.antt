use Rattle.ly_resolve.specs.Precedence.{judge_of}
use Rattle.ly_resolve.proofs.MeetingLemmas.{earliest_found, earliest_none}
use Rattle.std.proofs.Common.{arith}
use Rattle.ly_resolve.proofs.meeting.Meeting.earliest.Goals as goal

pub returns-then-stays : goal.returns-then-stays
returns-then-stays c =
    let m = c.args.self.now in
    earliest_found m.shift m.reductions.now (λ p. judge_of m.spec.now p m.terminal.0) c.loop-rule.rule-index
    c.loop-rule-test.true c.requires c.loop-rule.invariant (c.stays.ensures.0 c.if-stays.true)

pub returns : goal.returns
returns c =
    let m = c.args.self.now in
    let past = c.loop-rule-test.false in
    earliest_none m.shift m.reductions.now (λ p. judge_of m.spec.now p m.terminal.0) c.loop-rule.rule-index
    (omega (arith, past)) c.loop-rule.invariant
