use Rattle.std.proofs.Common.{◌≡◌, ◌<◌, ◌++◌, length, map, take, All}
use Rattle.ly_lr0.specs.Automaton.{Lr0Automaton, prefix_of}
use Rattle.ly_resolve.specs.Precedence.{judge_of}
use Rattle.ly_resolve.specs.Private.Meetings.{told}
use Rattle.ly_resolve.specs.Values.{action_from, conflict_from, kind_from, IsInside}
use Rattle.ly_resolve.proofs.meeting.Meeting.push_kind.Given as goal

-- the conflicts of the rules before this one are there
abbrev pub invariant-loop-rule : goal.invariant-loop-rule
invariant-loop-rule l = record {
  told : (M : Lr0Automaton) → map (conflict_from M) l.conflicts ≡ map (conflict_from M) l.initial.conflicts
      ++ told (prefix_of M l.state.0) l.self.terminal.0 l.self.shift (take l.rule-index l.self.reductions.now)
      (λ p. judge_of l.self.spec.now p l.self.terminal.0) (action_from l.choice) (kind_from l.kind);
  inside : (M : Lr0Automaton) → l.state.0 < length M.states → l.self.terminal.0 < M.grammar.terminals
      → All (IsInside M) l.initial.conflicts → All (IsInside M) l.conflicts;
}
