use Rattle.std.proofs.Common.{◌≡◌, ◌++◌, map, take}
use Rattle.ly_lr0.specs.Transitions.{transition_of}
use Rattle.ly_relate.specs.Private.Gotos.{row_gotos}
use Rattle.ly_relate.specs.Values.{goto_from}
use Rattle.ly_relate.proofs.gotos.push_row.Given as goal

-- the transitions before this one were numbered
abbrev pub invariant-loop-transition : goal.invariant-loop-transition
invariant-loop-transition l = map goto_from l.gotos.items ≡ map goto_from l.initial.gotos.items
    ++ row_gotos l.from.0 (map transition_of (take l.transition-index l.transition-items))
