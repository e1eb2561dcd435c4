use Rattle.std.proofs.Common.{map, All}
use Rattle.ly_resolve.specs.Precedence.{judge_of}
use Rattle.ly_resolve.specs.Private.Found.{AreEntries, AreTold}
use Rattle.ly_resolve.specs.Values.{conflict_from, terminal_action_from, IsInside}
use Rattle.ly_resolve.proofs.settle.resolve_state.Given as goal

-- the entries before this terminal are settled, and their conflicts told
abbrev pub invariant-loop-terminal : goal.invariant-loop-terminal
invariant-loop-terminal l = record {
  row : AreEntries l.sources.lr0.now (judge_of l.sources.spec.now) l.state.0 l.terminal
      (map terminal_action_from l.row.items);
  told : AreTold l.sources.lr0.now (judge_of l.sources.spec.now) l.state.0 l.terminal
      (map (conflict_from l.sources.lr0.now) l.told.conflicts) l.told.conflict_free;
  inside : All (IsInside l.sources.lr0.now) l.told.conflicts;
}
