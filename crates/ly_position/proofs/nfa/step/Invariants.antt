use Rattle.std.proofs.Common.{take}
use Rattle.ly_position.specs.Private.Targets.{GoesOn}
use Rattle.ly_position.proofs.SetLemmas.{Puts}
use Rattle.ly_position.proofs.nfa.step.Given as goal

-- where the positions so far go on is in the set
abbrev pub invariant-loop-number : goal.invariant-loop-number
invariant-loop-number l = Puts (GoesOn l.slots l.byte) l.fn.into l.into (take l.number-index l.from)
