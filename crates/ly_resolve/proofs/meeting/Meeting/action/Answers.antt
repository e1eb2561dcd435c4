use Rattle.ly_resolve.specs.Precedence.{judge_of}
use Rattle.ly_resolve.proofs.MeetingLemmas.{nothing_asked}
use Rattle.ly_resolve.proofs.meeting.Meeting.action.Goals as goal

pub returns-then-not-self : goal.returns-then-not-self
returns-then-not-self c =
    let m = c.args.self.now in
    nothing_asked m.shift m.reductions.now (λ p. judge_of m.spec.now p m.terminal.0) c.if-not-self.true
    c.in_default.ensures
