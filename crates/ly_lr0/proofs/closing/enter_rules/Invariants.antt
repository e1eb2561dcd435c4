use Rattle.std.proofs.Common.{take}
use Rattle.ly_lr0.specs.Private.Closing.{AreAdded}
use Rattle.ly_lr0.proofs.closing.enter_rules.Given as goal

-- those of the rules before this one were added
abbrev pub invariant-loop-rule : goal.invariant-loop-rule
invariant-loop-rule l = AreAdded l.reduced.grammar (take l.rule-index l.rules) l.fn.entered l.entered
