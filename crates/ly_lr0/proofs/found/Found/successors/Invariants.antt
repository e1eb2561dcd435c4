use Rattle.std.proofs.Common.{◌≡◌, ◌≤◌, ◌-◌, length, map}
use Rattle.ly_lr0.specs.Transitions.{transition_of}
use Rattle.ly_lr0.specs.Private.Found.{links_of, rows_of}
use Rattle.ly_lr0.specs.Private.Kernels.{KeepsKernels}
use Rattle.ly_lr0.proofs.SuccessorLemmas.{HasEntered}
use Rattle.ly_lr0.proofs.found.Found.successors.Given as goal

-- the transitions over the symbols before this place are there
abbrev pub invariant-loop-at : goal.invariant-loop-at
invariant-loop-at l = record {
  at : l.at ≤ length l.moves;
  from : l.from ≡ length l.self.rows.items;
  rows : l.self.rows ≡ l.fn.self.rows;
  reduced : l.self.reduced ≡ l.fn.self.reduced;
  limit : l.self.limit ≡ l.fn.self.limit;
  few : length l.self.kernels ≤ l.self.limit;
  kept : KeepsKernels l.fn.self.kernels l.self.kernels;
  entered : HasEntered l.self.reduced.now.grammar l.self.kernels (links_of l.self) (rows_of l.self)
      (map transition_of l.transitions.items) l.from l.moves l.at;
}

abbrev pub decreases-loop-at : goal.decreases-loop-at
decreases-loop-at l = length l.moves - l.at
