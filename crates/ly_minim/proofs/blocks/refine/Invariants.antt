use Rattle.ly_minim.proofs.BlockLemmas.{IsRefining}
use Rattle.ly_minim.proofs.blocks.refine.Given as goal

-- the states before this one have their finer blocks
abbrev pub invariant-loop-state : goal.invariant-loop-state
invariant-loop-state l = IsRefining l.dfa l.of l.state l.finer.items l.keys
