use Rattle.std.proofs.Common.{◌≢◌, ℕ, take, Contains}
use Rattle.ly_resolve.specs.Actions.{to_error}
use Rattle.ly_resolve.specs.Precedence.{judge_of}
use Rattle.ly_resolve.proofs.meeting.Meeting.is_refused.Given as goal

-- no rule before this one refuses
abbrev pub invariant-loop-rule : goal.invariant-loop-rule
invariant-loop-rule l = (p : ℕ) → Contains (take l.rule-index l.self.reductions.now) p
    → judge_of l.self.spec.now p l.self.terminal.0 ≢ to_error
