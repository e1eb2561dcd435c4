use Rattle.std.proofs.Common.{◌≡◌, ℕ, take, Contains, IsTrue}
use Rattle.ly_resolve.specs.Actions.{to_reduce}
use Rattle.ly_resolve.specs.Precedence.{judge_of}
use Rattle.ly_resolve.proofs.meeting.Meeting.earliest.Given as goal

-- no rule before this one stays
abbrev pub invariant-loop-rule : goal.invariant-loop-rule
invariant-loop-rule l = (p : ℕ) → Contains (take l.rule-index l.self.reductions.now) p
    → (IsTrue l.self.shift → judge_of l.self.spec.now p l.self.terminal.0 ≡ to_reduce) → ⊥
