use Rattle.std.proofs.Common.{take}
use Rattle.ly_loop.specs.Private.Reductions.{AreFirsts}
use Rattle.ly_loop.proofs.ReductionLemmas.{AreKeptOn}
use Rattle.ly_loop.proofs.reductions.without_ends.Given as goal

-- the rules so far are kept, if they lead on and no other says the same
abbrev pub invariant-loop-rule : goal.invariant-loop-rule
invariant-loop-rule g l = record {
  alike : AreFirsts l.machine l.alike l.kept.items;
  kept : AreKeptOn l.machine l.state.0 (take l.rule-index l.row) l.kept.items;
}
